use Rattle.std.proofs.Common.{◌∙◌, sym, subst}
use Rattle.up_pattern.proofs.Matches.{glob-unsupported, glob-supported}
use Rattle.up_pattern.proofs.Unclosed.{settled-start}
use Rattle.up_pattern.specs.Matching.{Settled}
use Rattle.up_pattern.proofs.pattern.glob.Goals as goal

pub returns-then-not-supported : goal.returns-then-not-supported
returns-then-not-supported c = sym (glob-unsupported c.args.pattern.now c.args.bytes.now (sym c.supported.ensures ∙ c.if-not-supported.true))

pub returns-in-Matches : goal.returns-in-Matches
returns-in-Matches c = sym (glob-supported c.args.pattern.now c.args.bytes.now (sym c.supported.ensures ∙ c.if-not-supported.false) ∙ c.in-Matches.ensures.gives)

pub returns-in-Fails : goal.returns-in-Fails
returns-in-Fails c = sym (glob-supported c.args.pattern.now c.args.bytes.now (sym c.supported.ensures ∙ c.if-not-supported.false) ∙ c.in-Fails.ensures.gives)

pub returns-in-Run : goal.returns-in-Run
returns-in-Run c = c.matches_end.ensures ∙ sym (glob-supported c.args.pattern.now c.args.bytes.now (sym c.supported.ensures ∙ c.if-not-supported.false) ∙ c.in-Run.ensures.gives.0.same)

pub invariant_of-segment : goal.invariant_of-segment
invariant_of-segment c = record {
  settled = subst (λ unclosed. Settled unclosed c.args.pattern.now) (sym c.unclosed_length-unclosed.ensures) (settled-start c.args.pattern.now (sym c.supported.ensures ∙ c.if-not-supported.false));
}
