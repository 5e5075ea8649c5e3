-- The lines of an engine's answers, one run of inputs after another.
use Rattle.std.proofs.Common.{◌≡◌, ℕ, zero, suc, ◌+◌, ◌-◌, ◌≤◌, false, List, [], ◌∷◌, ◌++◌, Option, None, Some, is_some, replicate, refl, sym, ◌∙◌, ap, subst, arith, add-one, append_assoc, append-nil}
use Rattle.std.specs.List.{flat_map}
use Rattle.up_engine.specs.declared.engine.Engine.{Engine}
use Rattle.up_engine.specs.Stands.{Stands}
use Rattle.up_model.specs.declared.input.Input.{Input}
use Rattle.up_model.specs.declared.input.Input.TheVariants.{Turn}
use Rattle.up_model.specs.declared.step.Step.TheVariants.{Gave}
use Rattle.up_model.specs.Answers.{answer, next, answers, after_all}
use Rattle.up_model.specs.Chronicle.{Chronicle}
use Rattle.up_model.specs.Configuration.{Configuration}
use Rattle.up_print.specs.Lines.{step_lines}
use Rattle.up_disk.specs.Running.{Tells}
use Rattle.up_script.specs.ScriptInputs.{inputs_of_step, inputs_of_steps}
use Rattle.up_script.specs.declared.scripted.StepInputs.{StepInputs}

pub flat-append : {X Y : Type 0} (f : X → List Y) (xs ys : List X) → flat_map f (xs ++ ys) ≡ flat_map f xs ++ flat_map f ys
flat-append f [] ys = refl
flat-append f (x ∷ xs) ys = ap (λ rest. f x ++ rest) (flat-append f xs ys) ∙ sym (append_assoc (f x) (flat_map f xs) (flat_map f ys))

-- the inputs of one step more
pub one-step-more : (steps : List StepInputs) (step : StepInputs) → inputs_of_steps steps ++ inputs_of_step step ≡ inputs_of_steps (steps ++ step ∷ [])
one-step-more steps step = ap (λ more. inputs_of_steps steps ++ more) (sym (append-nil (inputs_of_step step))) ∙ sym (flat-append inputs_of_step steps (step ∷ []))

answers-append : (config : Configuration) (c : Chronicle) (xs ys : List Input) → answers config c (xs ++ ys) ≡ answers config c xs ++ answers config (after_all config c xs) ys
unfolding answers after_all
answers-append config c [] ys = refl
answers-append config c (x ∷ xs) ys = ap (λ steps. answer config c x ∷ steps) (answers-append config (next config c x) xs ys)

after-append : (config : Configuration) (c : Chronicle) (xs ys : List Input) → after_all config c (xs ++ ys) ≡ after_all config (after_all config c xs) ys
unfolding after_all
after-append config c [] ys = refl
after-append config c (x ∷ xs) ys = after-append config (next config c x) xs ys

-- nothing is told of no inputs
pub tells-none : (text : List ℕ) (engine : Engine) (config : Configuration) (c : Chronicle) → Stands engine config c → Tells text text engine config c []
unfolding answers after_all
tells-none text engine config c s = record { text = sym (append-nil text); stands = s }

pub tells-one : (old new : List ℕ) (engine : Engine) (config : Configuration) (c : Chronicle) (given : Input) → new ≡ old ++ step_lines (answer config c given) → Stands engine config (next config c given)
    → Tells old new engine config c (given ∷ [])
unfolding answers after_all
tells-one old new engine config c given lines s = record { text = lines ∙ ap (λ more. old ++ more) (sym (append-nil (step_lines (answer config c given)))); stands = s }

pub tells-then : (old text new : List ℕ) (first engine : Engine) (config : Configuration) (c : Chronicle) (xs ys : List Input) → Tells old text first config c xs → Tells text new engine config (after_all config c xs) ys
    → Tells old new engine config c (xs ++ ys)
tells-then old text new first engine config c xs ys before more =
    let one = flat_map step_lines (answers config c xs) in
    let two = flat_map step_lines (answers config (after_all config c xs) ys) in
    record {
      text = more.text ∙ ap (λ front. front ++ two) before.text ∙ append_assoc old one two
          ∙ ap (λ lines. old ++ lines) (sym (flat-append step_lines (answers config c xs) (answers config (after_all config c xs) ys)) ∙ ap (flat_map step_lines) (sym (answers-append config c xs ys)));
      stands = subst (Stands engine config) (sym (after-append config c xs ys)) more.stands;
    }

-- turns, one more or many more
pub one-after : (n : ℕ) (given : Input) → replicate n given ++ given ∷ [] ≡ replicate (suc n) given
one-after zero given = refl
one-after (suc n) given = ap (λ rest. given ∷ rest) (one-after n given)

pub one-more : (n : ℕ) (given : Input) → replicate n given ++ given ∷ [] ≡ replicate (n + 1) given
one-more n given = one-after n given ∙ ap (λ k. replicate k given) (sym (add-one n))

many-more : (n m : ℕ) (given : Input) → replicate n given ++ replicate m given ≡ replicate (n + m) given
many-more zero m given = ap (λ k. replicate k given) (omega arith)
many-more (suc n) m given =
    ap (λ rest. given ∷ rest) (many-more n m given) ∙ ap (λ k. replicate k given) (the (suc (n + m) ≡ suc n + m) (omega arith))
  where
    the : (A : Type 0) → A → A
    the A a = a

pub none-found : {X : Type 0} (o : Option X) → is_some o ≡ false → o ≡ None
none-found None none = refl
none-found (Some x) none = cc

idle-lines : (n : ℕ) → flat_map step_lines (replicate n (Gave [])) ≡ []
idle-lines zero = refl
idle-lines (suc n) = idle-lines n

-- turns that find nothing tell nothing
pub tells-idle : (old text : List ℕ) (engine : Engine) (config : Configuration) (c : Chronicle) (n count : ℕ) → n ≤ count → Tells old text engine config c (replicate n Turn)
    → Stands engine config (after_all config (after_all config c (replicate n Turn)) (replicate (count - n) Turn)) × (answers config (after_all config c (replicate n Turn)) (replicate (count - n) Turn) ≡ replicate (count - n) (Gave []))
    → Tells old text engine config c (replicate count Turn)
tells-idle old text engine config c n count few before idle =
    let d = after_all config c (replicate n Turn) in
    let rest : Tells text text engine config d (replicate (count - n) Turn) =
    record {
      text = sym (append-nil text) ∙ ap (λ lines. text ++ lines) (sym (ap (flat_map step_lines) idle.1 ∙ idle-lines (count - n)));
      stands = idle.0;
    } in
    subst (Tells old text engine config c) (many-more n (count - n) Turn ∙ ap (λ k. replicate k Turn) (omega (arith, few))) (tells-then old text text engine engine config c (replicate n Turn) (replicate (count - n) Turn) before rest)
