use Rattle.std.proofs.Common.{◌≡◌, [], drop}
use Rattle.std.specs.Option.{option_map_or}
use Rattle.up_model.specs.Events as model
use Rattle.up_cascade.proofs.events.export_all.Given as goal

-- exporting what is left gives the whole
abbrev pub invariant-loop-key : goal.invariant-loop-key
invariant-loop-key l =
    model.with_exports (option_map_or (λ env. env.now) l.environment []) (drop l.key-index l.keys) l.vars
    ≡ model.with_exports (option_map_or (λ env. env.now) l.environment []) l.keys l.initial.vars
