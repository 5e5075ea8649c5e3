-- Which numbers are connected, as clients come and go.
use Rattle.std.proofs.Common.{◌≡◌, ◌∙◌, ◌+◌, ◌++◌, ◌∷◌, [], ℕ, ◌==◌, Bool, true, false, if◌then◌else◌, List, refl, ap, arith, eq-eqb, eqb-true}
use Rattle.std.proofs.lemmas.Bool.{both_ways}
use Rattle.up_daemon.specs.Connected.{count_of, AreConnected}
use Rattle.up_edge.specs.Connecting.{SameClients, Connects, Disconnects}
use Rattle.up_daemon.specs.Peers.{Peer, numbers_of, IsNobody}

pub count_append : (number : ℕ) (before after : List ℕ) → count_of number (before ++ after) ≡ count_of number before + count_of number after
count_append number [] after = omega arith
count_append number (other ∷ before) after = let so_far = count_append number before after in omega arith

-- a number that is not connected is that of nobody
none_has : (number : ℕ) (peers : List Peer) → count_of number (numbers_of peers) ≡ 0 → IsNobody number peers
none_has number [] none = tt
none_has number (peer ∷ peers) none = by_test (number == peer.number) refl (none_has number peers)
  where
    by_test : (t : Bool) → (number == peer.number) ≡ t → (count_of number (numbers_of peers) ≡ 0 → IsNobody number peers) → IsNobody number (peer ∷ peers)
    by_test true is others =
        let one : count_of number (numbers_of (peer ∷ peers)) ≡ 1 + count_of number (numbers_of peers) = rw is refl in
        absurd (omega (arith, one, none))
    by_test false is others =
        let rest : count_of number (numbers_of (peer ∷ peers)) ≡ 0 + count_of number (numbers_of peers) = rw is refl in
        (λ same. absurd (both_ways (number == peer.number) is (eq-eqb number peer.number same)), others (omega (arith, rest, none)))

pub nobody : (number : ℕ) (peers : List Peer) (connected : ℕ → Bool) → connected number ≡ false → AreConnected connected (numbers_of peers)
    → IsNobody number peers
nobody number peers connected is are = none_has number peers (are number ∙ rw is refl)

-- the same clients are connected
pub same_clients : (connected after : ℕ → Bool) (numbers : List ℕ) → SameClients connected after → AreConnected connected numbers → AreConnected after numbers
same_clients connected after numbers same are number = rw (same number) (are number)

-- one comes
pub comes : (client : ℕ) (connected after : ℕ → Bool) (numbers : List ℕ) → Connects client connected after → AreConnected connected numbers
    → AreConnected after (numbers ++ client ∷ [])
comes client connected after numbers connects are number = by_test (number == client) refl
  where
    by_test : (t : Bool) → (number == client) ≡ t → count_of number (numbers ++ client ∷ []) ≡ (if after number then 1 else 0)
    by_test true is =
        let new : after number ≡ true = connects.1 number ∙ rw is refl in
        let old : connected number ≡ false = ap connected (eqb-true number client is) ∙ connects.0 in
        let one : count_of number (client ∷ []) ≡ 1 = rw is refl in
        let was : count_of number numbers ≡ 0 = are number ∙ rw old refl in
        rw new (omega (arith, count_append number numbers (client ∷ []), one, was))
    by_test false is =
        let new : after number ≡ connected number = connects.1 number ∙ rw is refl in
        let none : count_of number (client ∷ []) ≡ 0 = rw is refl in
        let was : count_of number numbers ≡ (if after number then 1 else 0) = rw new (are number) in
        omega (arith, count_append number numbers (client ∷ []), none, was)

-- a number that stood there once stands there no longer
at_most_one : (b : Bool) (all n : ℕ) → all ≡ 1 + n → all ≡ (if b then 1 else 0) → n ≡ 0
at_most_one true all n one is = omega (arith, one, is)
at_most_one false all n one is = absurd (omega (arith, one, is))

-- one goes
pub goes : (client : ℕ) (connected after : ℕ → Bool) (before rest : List ℕ) → Disconnects client connected after
    → AreConnected connected (before ++ client ∷ rest) → AreConnected after (before ++ rest)
goes client connected after before rest disconnects are number = by_test (number == client) refl
  where
    by_test : (t : Bool) → (number == client) ≡ t → count_of number (before ++ rest) ≡ (if after number then 1 else 0)
    by_test true is =
        let new : after number ≡ false = disconnects number ∙ rw is refl in
        let one : count_of number (client ∷ rest) ≡ 1 + count_of number rest = rw is refl in
        rw new (at_most_one (connected number) (count_of number (before ++ client ∷ rest)) (count_of number (before ++ rest))
        (omega (arith, count_append number before (client ∷ rest), count_append number before rest, one)) (are number))
    by_test false is =
        let new : after number ≡ connected number = disconnects number ∙ rw is refl in
        let none : count_of number (client ∷ rest) ≡ 0 + count_of number rest = rw is refl in
        let was : count_of number (before ++ client ∷ rest) ≡ (if after number then 1 else 0) = rw new (are number) in
        omega (arith, count_append number before (client ∷ rest), count_append number before rest, none, was)
