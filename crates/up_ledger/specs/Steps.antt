-- What a step that isn't over has asked for, and what its request acted on.
use Rattle.std.specs.Prelude.{◌≡◌, List, Option}
use Rattle.up_model.specs.declared.output.Output.{Output}
use Rattle.up_model.specs.Chronicle.{Chronicle}
use Rattle.up_model.specs.Configuration.{Configuration}
use Rattle.up_model.specs.Outputs.{outputs_of}
use Rattle.up_ledger.specs.declared.step.ActedOn.{ActedOn}
use Rattle.up_ledger.specs.declared.step.Asked.{Asked}
use Rattle.up_ledger.specs.declared.step.Step.{Step}
use Rattle.up_ledger.specs.Asking.{asked_of, IsUnheld}
use Rattle.up_ledger.specs.Requesting.{OnMeans}

pub record Asks (outs : List Output) (request : Option Asked) (instance : Option ActedOn) (config : Configuration) (c : Chronicle) : Type 0 where
  pub outputs : outs ≡ outputs_of c
  pub asked : request ≡ asked_of c
  pub on : OnMeans config c instance
  pub unheld : IsUnheld c

abbrev pub IsStep : Step → Configuration → Chronicle → Type 0
IsStep step config c = Asks step.outputs.items step.asked step.on config c
