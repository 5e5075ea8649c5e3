use Rattle.up_engine.proofs.judgement.verdict_on.Goals as goal

pub returns-in-Some : goal.returns-in-Some
returns-in-Some g c mode c' s =
    let found = rw c.as_str.ensures.text at c.in-Some.ensures.some in
    c.verdict_in.ensures mode c.args.setup.now c' s found.1
