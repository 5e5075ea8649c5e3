use Rattle.up_disk.proofs.Compiling.{outcome}
use Rattle.up_disk.proofs.compiled.compile.Goals as goal

pub returns : goal.returns
returns c = outcome c.args.folder.now c.faults_and_compile.result c.faults_and_compile.ensures.faults c.faults_and_compile.ensures.table
