-- One client among others changes.
use Rattle.std.proofs.Common.{◌≡◌, sym, ◌++◌, ◌∷◌, ◌==◌, [], ℕ, Bool, true, false, List, refl, eqb-true, append_assoc}
use Rattle.std.specs.List.{AllByRecursion}
use Rattle.up_daemon.specs.Peers.{Peer}
use Rattle.up_daemon.specs.Exchanges.{Apart, AreApart}

pub apart_sym : (one other : Peer) → Apart one other → Apart other one
apart_sym one other apart = record {
  numbers = λ same. apart.numbers (sym same);
  requests = λ id is was. apart.requests id was is;
}

-- P of all, and of one more
pub all_push : (P : Peer → Type 0) (peers : List Peer) (peer : Peer) → AllByRecursion P peers → P peer → AllByRecursion P (peers ++ peer ∷ [])
all_push P [] peer all one = (one, tt)
all_push P (other ∷ peers) peer all one = (all.0, all_push P peers peer all.1 one)

pub all_each : (P Q : Peer → Type 0) (peers : List Peer) → ((q : Peer) → P q → Q q) → AllByRecursion P peers → AllByRecursion Q peers
all_each P Q [] each all = tt
all_each P Q (peer ∷ peers) each all = (each peer all.0, all_each P Q peers each all.1)

pub all_both : (P Q R : Peer → Type 0) (peers : List Peer) → ((q : Peer) → P q → Q q → R q) → AllByRecursion P peers → AllByRecursion Q peers → AllByRecursion R peers
all_both P Q R [] each all others = tt
all_both P Q R (peer ∷ peers) each all others = (each peer all.0 others.0, all_both P Q R peers each all.1 others.1)

-- one is left out
pub all_drop : (P : Peer → Type 0) (before : List Peer) (peer : Peer) (after : List Peer) → AllByRecursion P (before ++ peer ∷ after) → AllByRecursion P (before ++ after)
all_drop P [] peer after all = all.1
all_drop P (other ∷ before) peer after all = (all.0, all_drop P before peer after all.1)

pub apart_drop : (before : List Peer) (peer : Peer) (after : List Peer) → AreApart (before ++ peer ∷ after) → AreApart (before ++ after)
apart_drop [] peer after all = all.1
apart_drop (other ∷ before) peer after all = (all_drop (Apart other) before peer after all.0, apart_drop before peer after all.1)

-- the one in the middle
pub all_at : (P : Peer → Type 0) (before : List Peer) (peer : Peer) (after : List Peer) → AllByRecursion P (before ++ peer ∷ after) → P peer
all_at P [] peer after all = all.0
all_at P (other ∷ before) peer after all = all_at P before peer after all.1

-- one changes, and all that are apart from it are as they say
pub all_change : (P Q : Peer → Type 0) (before : List Peer) (peer new : Peer) (after : List Peer)
    → ((q : Peer) → Apart peer q → P q → Q q) → (P peer → Q new)
    → AreApart (before ++ peer ∷ after) → AllByRecursion P (before ++ peer ∷ after) → AllByRecursion Q (before ++ new ∷ after)
all_change P Q [] peer new after others one apart all = (one all.0, all_both (Apart peer) P Q after others apart.0 all.1)
all_change P Q (other ∷ before) peer new after others one apart all = (
  others other (apart_sym other peer (all_at (Apart other) before peer after apart.0)) all.0,
  all_change P Q before peer new after others one apart.1 all.1,
)

-- one of them changes in nothing that P is of
pub all_put : (P : Peer → Type 0) (before : List Peer) (peer new : Peer) (after : List Peer)
    → (P peer → P new) → AllByRecursion P (before ++ peer ∷ after) → AllByRecursion P (before ++ new ∷ after)
all_put P [] peer new after one all = (one all.0, all.1)
all_put P (other ∷ before) peer new after one all = (all.0, all_put P before peer new after one all.1)

pub apart_change : (P : Peer → Type 0) (before : List Peer) (peer new : Peer) (after : List Peer)
    → ((q : Peer) → P q → Apart peer q → Apart new q)
    → AllByRecursion P (before ++ peer ∷ after) → AreApart (before ++ peer ∷ after) → AreApart (before ++ new ∷ after)
apart_change P [] peer new after others all apart = (all_both P (Apart peer) (Apart new) after others all.1 apart.0, apart.1)
apart_change P (other ∷ before) peer new after others all apart = (
  all_put (Apart other) before peer new after (λ was. apart_sym new other (others other all.0 (apart_sym other peer was))) apart.0,
  apart_change P before peer new after others all.1 apart.1,
)

-- one more comes
pub apart_push : (peers : List Peer) (peer : Peer) → AllByRecursion (λ q. Apart q peer) peers → AreApart peers → AreApart (peers ++ peer ∷ [])
apart_push [] peer all apart = (tt, tt)
apart_push (other ∷ peers) peer all apart = (all_push (Apart other) peers peer apart.0 all.0, apart_push peers peer all.1 apart.1)

pub differ : (a b : ℕ) → (a ≡ b → ⊥) → (a == b) ≡ false
differ a b apart = by_test (a == b) refl
  where
    by_test : (t : Bool) → (a == b) ≡ t → (a == b) ≡ false
    by_test true is = absurd (apart (eqb-true a b is))
    by_test false is = is

-- lists that were put together in one way are together in the other
pub regroup : (before : List Peer) (peer : Peer) (after : List Peer) → (before ++ peer ∷ []) ++ after ≡ before ++ peer ∷ after
regroup before peer after = append_assoc before (peer ∷ []) after

pub apart_at : (before : List Peer) (peer : Peer) (after : List Peer) → AreApart (before ++ peer ∷ after) → AllByRecursion (Apart peer) (before ++ after)
apart_at [] peer after apart = apart.0
apart_at (other ∷ before) peer after apart =
    (apart_sym other peer (all_at (Apart other) before peer after apart.0), apart_at before peer after apart.1)

pub all_init : (P : Peer → Type 0) (peers : List Peer) (peer : Peer) → AllByRecursion P (peers ++ peer ∷ []) → AllByRecursion P peers
all_init P [] peer all = tt
all_init P (other ∷ peers) peer all = (all.0, all_init P peers peer all.1)
