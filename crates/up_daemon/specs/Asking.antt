-- What a request is fed as.
use Rattle.std.specs.Prelude.{◌≡◌, ◌≢◌, ◌⊎◌, ℕ}
use Rattle.up_edge.specs.Calls.{Calls, with_entry, with_failure}
use Rattle.up_model.specs.Requests.{RequestValue}
use Rattle.up_model.specs.declared.input.Input.{Input}
use Rattle.up_model.specs.declared.input.Input.TheVariants.{Request, Load}
use Rattle.up_model.specs.declared.loaded.Loaded.{Loaded}
use Rattle.up_model.specs.declared.loaded.Loaded.TheVariants.{Unread}
use Rattle.up_model.specs.declared.request.Command.TheVariants.{ReloadConfiguration}

-- the source is called once: what it gives is loaded, or, if the call fails, the configuration wasn't read
abbrev pub IsLoad : ℕ → Input → (before after : Calls Loaded) → Type 0
IsLoad id given before after =
    ((loaded : Loaded) × (given ≡ Load id loaded) × (after ≡ with_entry loaded before))
    ⊎ ((given ≡ Load id Unread) × (after ≡ with_failure before))

-- a request is fed as it is, unless it is one to reload the configuration
abbrev pub IsAsked : ℕ → RequestValue → Input → (before after : Calls Loaded) → Type 0
IsAsked id request given before after =
    ((request.command ≢ ReloadConfiguration) × (given ≡ Request id request) × (after ≡ before))
    ⊎ ((request.command ≡ ReloadConfiguration) × IsLoad id given before after)
