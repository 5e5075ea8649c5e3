use Rattle.up_isolation.proofs.Runs.{law-one, law-still, law-part}
use Rattle.up_isolation.proofs.laws.part.Goals as goal

pub returns-clause-one : goal.returns-clause-one
returns-clause-one c = law-one

pub returns-clause-still : goal.returns-clause-still
returns-clause-still c = law-still

pub returns-clause-same : goal.returns-clause-same
returns-clause-same c = λ job first second inputs others one same given other notice. law-part job first second inputs others given other notice one same
