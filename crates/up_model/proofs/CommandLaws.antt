-- Commands and their names are one to one.
use Rattle.std.proofs.Common.{◌≡◌, Bool, true, false, List, [], ◌∷◌, Some, cond, find, bytes_eq, refl, ◌∙◌, ap}
use Rattle.up_model.specs.declared.request.Command.{Command}
use Rattle.up_model.specs.declared.request.Command.TheVariants as command
use Rattle.up_model.specs.Requests.{command_name, command_named, commands}
use Rattle.up_model.specs.Values.{Bytes}
use Rattle.up_model.proofs.Places.{bytes_same}

-- a command is found by its name
pub command_found : (its : Command) → command_named (command_name its) ≡ Some its
command_found command.Start = refl
command_found command.Stop = refl
command_found command.Restart = refl
command_found command.Status = refl
command_found command.List = refl
command_found command.Emit = refl
command_found command.Reload = refl
command_found command.ReloadConfiguration = refl
command_found command.Version = refl

found_among : (name : Bytes) (all : List Command) (its : Command) → find (λ other. bytes_eq name (command_name other)) all ≡ Some its → name ≡ command_name its
found_among name [] its found = absurd (cc)
found_among name (other ∷ others) its found =
    by_case (bytes_eq name (command_name other)) refl found (found_among name others its)
  where
    by_case : (same : Bool) → bytes_eq name (command_name other) ≡ same → cond same (Some other) (find (λ next. bytes_eq name (command_name next)) others) ≡ Some its
        → (find (λ next. bytes_eq name (command_name next)) others ≡ Some its → name ≡ command_name its) → name ≡ command_name its
    by_case true same chosen rest =
        let which : other ≡ its = cc in
        bytes_same name (command_name other) same ∙ ap command_name which
    by_case false same chosen rest = rest chosen

-- what finds a command is its name
pub command_own : (name : Bytes) (its : Command) → command_named name ≡ Some its → name ≡ command_name its
command_own name its found = found_among name commands its found
