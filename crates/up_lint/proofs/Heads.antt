-- The stanzas of a text, one after another.
use Rattle.std.proofs.Common.{◌≡◌, ℕ, zero, suc, ◌-◌, ◌<◌, ◌≤◌, Bool, true, false, List, [], ◌∷◌, ◌++◌, None, Some, refl, sym, ap, ◌∙◌, arith, append_assoc, append-nil}
use Rattle.up_text.specs.Places.{Place, is_finished}
use Rattle.up_lint.specs.declared.head.Head.{Head}
use Rattle.up_lint.specs.Heads.{head_at, head_then, heads_from}

one_more : (over : Bool) (n : ℕ) (place : Place) → is_finished place ≡ false → heads_from over (suc n) place ≡ head_then (λ after. heads_from over n after) (head_at over place)
unfolding heads_from
one_more over n place more = rw more refl

-- a stanza more
pub heads_more : (over : Bool) (left : ℕ) (place next : Place) (head : Head) (heads : List Head) → 0 < left → is_finished place ≡ false → head_at over place ≡ Some (head, next)
    → (heads ++ head ∷ []) ++ heads_from over (left - 1) next ≡ heads ++ heads_from over left place
heads_more over zero place next head heads some more is = absurd (omega (arith, some))
heads_more over (suc n) place next head heads some more is =
    let less : suc n - 1 ≡ n = omega arith in
    let step : heads_from over (suc n) place ≡ head ∷ heads_from over n next =
    one_more over n place more ∙ ap (head_then (λ after. heads_from over n after)) is in
    rw (less, step) (append_assoc heads (head ∷ []) (heads_from over n next))

-- one that is refused
pub heads_refused : (over : Bool) (left : ℕ) (place : Place) (heads : List Head) → 0 < left → is_finished place ≡ false → head_at over place ≡ None → heads ≡ heads ++ heads_from over left place
heads_refused over zero place heads some more is = absurd (omega (arith, some))
heads_refused over (suc n) place heads some more is =
    sym (ap (λ hs. heads ++ hs) (one_more over n place more ∙ ap (head_then (λ after. heads_from over n after)) is) ∙ append-nil heads)

-- none is left
pub heads_none : (over : Bool) (left : ℕ) (place : Place) (heads : List Head) → left ≤ 0 → heads ≡ heads ++ heads_from over left place
unfolding heads_from
heads_none over zero place heads none = sym (append-nil heads)
heads_none over (suc n) place heads none = absurd (omega (arith, none))

pub heads_finished : (over : Bool) (left : ℕ) (place : Place) (heads : List Head) → is_finished place ≡ true → heads ≡ heads ++ heads_from over left place
unfolding heads_from
heads_finished over zero place heads is = sym (append-nil heads)
heads_finished over (suc n) place heads is = rw is (sym (append-nil heads))
