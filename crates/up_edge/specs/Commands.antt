-- The command that starts an order's process.
use Rattle.std.specs.Prelude.{◌≡◌, ℕ, List, [], ◌∷◌, ◌++◌, true, Some, codes, option_map}
use Rattle.std.specs.Fmt.{decimal}
use Rattle.std.specs.declared.process.command.Command.{Command}
use Rattle.std.specs.Process.{command_program, command_args, command_var, command_dir, clears_env}
use Rattle.up_text.specs.Bindings.{value_of}
use Rattle.up_model.specs.declared.output.Order.{Order}

-- the first word names the program, and the rest are its arguments
abbrev pub HasWords : {A : Type 0} → Command A → List (List ℕ) → Type 0
HasWords command [] = ⊥
HasWords command (program ∷ words) = (command_program command ≡ program) × (command_args command ≡ words)

-- the environment is these pairs and nothing else: each key has its value, and no other variable is passed on
pub record HasEnv {A : Type 0} (command : Command A) (env : List (List ℕ × List ℕ)) : Type 0 where
  pub clears : clears_env command ≡ true
  pub vars : (key : List ℕ) → command_var command key ≡ option_map (λ value. Some value) (value_of key env)

-- the command runs the order's words in its directory with its environment
pub record IsCommandOf {A : Type 0} (order : Order) (command : Command A) : Type 0 where
  pub words : HasWords command order.argv
  pub dir : command_dir command ≡ Some order.dir
  pub env : HasEnv command order.env

-- the words by which a shell sends the signal of this name to the process of this number (kill(1))
abbrev pub kill_words : List ℕ → ℕ → List (List ℕ)
kill_words name pid = codes "-c" ∷ (codes "kill -s " ++ name ++ codes " " ++ decimal pid) ∷ []

abbrev pub IsKill : {A : Type 0} → List ℕ → ℕ → Command A → Type 0
IsKill name pid command = HasWords command (codes "/bin/sh" ∷ kill_words name pid)
