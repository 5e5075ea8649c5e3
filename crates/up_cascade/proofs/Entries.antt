-- Lists of entries.
use Rattle.std.proofs.Common.{◌≡◌, ℕ, ◌&&◌, false, true, List, [], ◌∷◌, ◌++◌, Option, None, Some, option_map, refl, ◌∙◌, ap, append_assoc}
use Rattle.up_conf.specs.declared.job.JobDef.{JobDef}
use Rattle.up_stanza.specs.declared.process.Process.TheVariants.{Main}
use Rattle.up_model.specs.declared.life.EntryActions as table
use Rattle.up_model.specs.declared.state.State.{State}
use Rattle.up_model.specs.declared.who.Who.{Who}
use Rattle.up_model.specs.Chronicle.{Chronicle, Entry, Entered, Signalled}
use Rattle.up_model.specs.Moves.{ordering, emitting, enter, enter_whole}
use Rattle.up_model.specs.Predicates.{entries_if, or_else}
use Rattle.up_model.specs.Readings.{lives}
use Rattle.up_model.specs.Replies.{releasing}
use Rattle.up_text.specs.Scripts.{is_filled}

pub or_else-some : (entries others : List Entry) → is_filled entries ≡ true → or_else entries others ≡ entries
or_else-some [] others some = cc
or_else-some (entry ∷ entries) others some = refl

pub or_else-none : (entries others : List Entry) → is_filled entries ≡ false → or_else entries others ≡ others
or_else-none [] others none = refl
or_else-none (entry ∷ entries) others none = cc

pub filled_last : (entries : List Entry) (last : Entry) → is_filled (entries ++ last ∷ []) ≡ true
filled_last [] last = refl
filled_last (entry ∷ entries) last = refl

pub filled_append : (entries others : List Entry) → is_filled others ≡ true → is_filled (entries ++ others) ≡ true
filled_append [] others h = h
filled_append (entry ∷ entries) others h = refl

pub filled_five : (xs ys zs ws : List Entry) (last : Entry) → is_filled (xs ++ (ys ++ (zs ++ (ws ++ last ∷ [])))) ≡ true
filled_five xs ys zs ws last =
    filled_append xs (ys ++ (zs ++ (ws ++ last ∷ []))) (filled_append ys (zs ++ (ws ++ last ∷ [])) (filled_append zs (ws ++ last ∷ []) (filled_last ws last)))

-- entries before entries before one, all before a chronicle
pub one_last : (xs : List Entry) (x : Entry) (c : List Entry) → (xs ++ x ∷ []) ++ c ≡ xs ++ x ∷ c
one_last xs x c = append_assoc xs (x ∷ []) c

-- the entries with which an event finishes
pub finishing_last : (xs ys : List Entry) (x : Entry) (c : List Entry) → (xs ++ (ys ++ x ∷ [])) ++ c ≡ xs ++ (ys ++ x ∷ c)
finishing_last xs ys x c = append_assoc xs (ys ++ x ∷ []) c ∙ ap (λ rest. xs ++ rest) (append_assoc ys (x ∷ []) c)

pub two_last : (xs : List Entry) (x y : Entry) (c : List Entry) → ((xs ++ x ∷ []) ++ y ∷ []) ++ c ≡ xs ++ x ∷ y ∷ c
two_last xs x y c = simp append_assoc

-- what a key found stands for
pub named_some : {K : Type 0} (places : K → Option ℕ) (key : K) (found : Option ℕ) → option_map places (Some key) ≡ option_map Some found
    → (i : ℕ) × (found ≡ Some i) × (places key ≡ Some i)
named_some places key None h = absurd cc
named_some places key (Some i) h = (i, refl, cc)

pub named_none : {K : Type 0} (places : K → Option ℕ) (found : Option ℕ) → option_map places None ≡ option_map Some found → found ≡ None
named_none places None h = refl
named_none places (Some i) h = absurd cc

pub some_same : {X : Type 0} {x y : X} → Some x ≡ Some y → x ≡ y
some_same e = cc

-- the entries with which an instance enters a state, one kind before another
pub enter_shape : (job : JobDef) (who : Who) (p : ℕ) (to : State) (entry : table.EntryActions) (c : Chronicle)
    → enter_whole job who p to entry c ++ c
    ≡ (let x : List Entry = ordering job p entry.orders ++ Entered p to ∷ c in
    let y : List Entry = entries_if (entry.kills && lives p Main c) (Signalled p job.kill_signal false ∷ []) ++ (emitting job who p to entry.emits x ++ x) in
    entries_if entry.releases (releasing p false y) ++ y)
enter_shape job who p to entry c =
    append_assoc (entries_if entry.releases (releasing p false (enter job who p to entry c ++ c))) (enter job who p to entry c) c ∙ ap (λ y. entries_if entry.releases (releasing p false y) ++ y) inner
  where
    O : List Entry
    O = ordering job p entry.orders

    K : List Entry
    K = entries_if (entry.kills && lives p Main c) (Signalled p job.kill_signal false ∷ [])

    entered : List Entry
    entered = O ++ Entered p to ∷ []

    M : List Entry → List Entry
    M x = emitting job who p to entry.emits x

    inner : enter job who p to entry c ++ c ≡ K ++ (M (O ++ Entered p to ∷ c) ++ (O ++ Entered p to ∷ c))
    inner =
        append_assoc K (M (entered ++ c) ++ entered) c ∙ ap (λ es. K ++ es) (append_assoc (M (entered ++ c)) entered c)
        ∙ ap (λ x. K ++ (M x ++ x)) (append_assoc O (Entered p to ∷ []) c)
