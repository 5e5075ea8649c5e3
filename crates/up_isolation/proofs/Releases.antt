-- Two instances that are alike release their holders alike.
use Rattle.std.proofs.Common.{◌≡◌, ℕ, ◌<◌, Bool, List, [], ◌∷◌, ◌++◌, Option, None, Some, length, refl, sym}
use Rattle.std.proofs.Common.{◌∙◌, ap, ap₂, subst₂, arith}
use Rattle.up_stanza.specs.declared.process.Process.{Process}
use Rattle.up_stanza.specs.declared.process.Process.TheVariants.{Main}
use Rattle.up_model.specs.declared.who.Who.{Who}
use Rattle.up_model.specs.Chronicle.{Chronicle, Entry, Given, Queued, Released}
use Rattle.up_model.specs.Configuration.{Configuration}
use Rattle.up_model.specs.Instances.{Instance}
use Rattle.up_model.specs.Readings.{entry_at, made_at, holders, pid_of}
use Rattle.up_model.specs.Replies.{request_at}
use Rattle.up_model.specs.Values.{Bytes}
use Rattle.up_isolation.specs.Parts.{Content, contents, content}
use Rattle.up_isolation.proofs.Lives.{Life, life}
use Rattle.up_isolation.proofs.Sights.{told}
use Rattle.up_isolation.proofs.Known.{AreOlder}
use Rattle.up_isolation.proofs.Pairs.{Pair, Carries, carries-none, carries-then, made-same}
use Rattle.std.proofs.Common.{append_assoc}
use Rattle.up_model.specs.declared.input.Input.TheVariants as input
use Rattle.up_model.specs.Readings.{goal, state_of}
use Rattle.up_model.specs.Replies.{own_process, pid_if, status_as, status_of, request_in, answer_to}
use Rattle.up_model.specs.Replies.{answering_one, answering, releasing}
use Rattle.up_model.specs.Requests.{RequestValue}
use Rattle.up_model.specs.Status.{status_text}
use Rattle.up_isolation.specs.Parts.{content_of, ARequest}
use Rattle.up_isolation.proofs.Known.{entry-later}
use Rattle.up_isolation.proofs.Others.{pair_replied}
use Rattle.up_isolation.proofs.Entries.{pair_released}

-- the status text
pid_if-same : (o : Option Process) (i j : ℕ) (c d : Chronicle) → life i c ≡ life j d
    → pid_if i o c ≡ pid_if j o d
pid_if-same None i j c d same = refl
pid_if-same (Some its) i j c d same = ap (λ (l : Life). l.pid its) same

pub status-same : (i j : ℕ) (c d : Chronicle) → made_at i c ≡ made_at j d → life i c ≡ life j d
    → status_of i c ≡ status_of j d
status-same i j c d made same = rw made (by_case (made_at j d))
  where
    by_case : (o : Option Who) → status_as o i c ≡ status_as o j d
    by_case None = refl
    by_case (Some who) =
        ap (λ (l : Life). status_text who l.goal l.state (l.pid Main) (pid_if i (own_process l.state) c)) same
        ∙ ap (λ (o : Option ℕ). status_text who (goal j d) (state_of j d) (pid_of j Main d) o)
        (pid_if-same (own_process (state_of j d)) i j c d same)

-- requests of the same content are the same entries
pub same-request : (o u : Option Entry) (request : RequestValue) → request_in o ≡ Some request
    → content_of o ≡ content_of u → o ≡ u
same-request (Some (Given (input.Request id its))) (Some (Given (input.Request other it))) request is same =
    let ids : id ≡ other = cc in
    let requests : its ≡ it = cc in
    ap₂ (λ k r. Some (Given (input.Request k r))) ids requests
same-request (Some (Given (input.Request id its))) (Some (Queued origin event)) request is same = absurd (cc)
same-request (Some (Given (input.Request id its))) u request is same = absurd (cc)
same-request o u request is same = absurd (cc)

abbrev request_of : Content → Option RequestValue
request_of (ARequest id request) = Some request
request_of other = None

request-content : (o : Option Entry) → request_in o ≡ request_of (content_of o)
request-content (Some (Given (input.Request id its))) = refl
request-content (Some (Queued origin event)) = refl
request-content o = refl

pub request-same : (p q : ℕ) (c d : Chronicle) → content p c ≡ content q d → request_at p c ≡ request_at q d
request-same p q c d same =
    request-content (entry_at p c) ∙ ap request_of same ∙ sym (request-content (entry_at q d))

-- what a place stands for stays
pub entry-append : (p : ℕ) (es c : List Entry) → p < length c
    → (p < length (es ++ c)) × (entry_at p (es ++ c) ≡ entry_at p c)
entry-append p [] c h = (h, refl)
entry-append p (e ∷ es) c h =
    let rest = entry-append p es c h in
    (omega (arith, rest.0), entry-later p e (es ++ c) rest.0 ∙ rest.1)

-- one answer
pair_answering_one : (job : Bytes) (config : Configuration) (c d : Chronicle) (x y : Instance) (p q : ℕ)
    (o u : Option RequestValue) (failed : Bool) (text told : Bytes)
    → request_at p c ≡ o → o ≡ u → text ≡ told → content p c ≡ content q d → Pair job config c d x y
    → Carries job config c d (answering_one p o failed text ++ c) (answering_one q u failed told ++ d) x y
pair_answering_one job config c d x y p q None None failed text told is same equal stands pair =
    carries-none job config c d x y pair
pair_answering_one job config c d x y p q (Some r) (Some s) failed text told is same equal stands pair =
    let entries = same-request (entry_at p c) (entry_at q d) r is stands in
    let requests : r ≡ s = cc in
    rw (← requests, ← equal) (pair_replied job config c d x y p q (answer_to r.command failed text) entries
    pair)
pair_answering_one job config c d x y p q None (Some s) failed text told is same equal stands pair =
    absurd (cc)
pair_answering_one job config c d x y p q (Some r) None failed text told is same equal stands pair =
    absurd (cc)

-- a chronicle that goes on from another
abbrev pub Extends : Chronicle → Chronicle → Type 0
Extends c later = (p : ℕ) → p < length c → (p < length later) × (entry_at p later ≡ entry_at p c)

pub extends-append : (es c later : List Entry) → Extends c later → Extends c (es ++ later)
extends-append es c later ext = λ p h.
    let one = ext p h in
    let two = entry-append p es later one.0 in
    (two.0, two.1 ∙ one.1)

pub extends-refl : (c : Chronicle) → Extends c c
extends-refl c = λ p h. (h, refl)

-- one after the other
pub carries-append : (job : Bytes) (config : Configuration) (c d : Chronicle) (x y : Instance)
    (es one fs other : List Entry)
    → Carries job config c d (one ++ c) (other ++ d) x y
    → (Pair job config (one ++ c) (other ++ d) x y → Carries job config (one ++ c) (other ++ d)
    (es ++ (one ++ c)) (fs ++ (other ++ d)) x y)
    → Carries job config c d ((es ++ one) ++ c) ((fs ++ other) ++ d) x y
carries-append job config c d x y es one fs other first second =
    subst₂ (λ a b. Carries job config c d a b x y) (sym (append_assoc es one c))
    (sym (append_assoc fs other d))
    (carries-then job config c d (one ++ c) (other ++ d) (es ++ (one ++ c)) (fs ++ (other ++ d)) x y first
    (second first.pair))

-- the answers to those that wait
pair_answering : (job : Bytes) (config : Configuration) (c d : Chronicle) (x y : Instance) (ps qs : List ℕ)
    (failed : Bool) (text told : Bytes) (later after : Chronicle)
    → contents ps c ≡ contents qs d → AreOlder (length c) ps → AreOlder (length d) qs → text ≡ told
    → Extends c later → Extends d after → Pair job config later after x y
    → Carries job config later after (answering ps failed text c ++ later)
    (answering qs failed told d ++ after) x y
pair_answering job config c d x y [] [] failed text told later after same older there equal ext exts pair =
    carries-none job config later after x y pair
pair_answering job config c d x y (p ∷ ps) (q ∷ qs) failed text told later after same older there equal ext
    exts pair =
    let head : content p c ≡ content q d = cc in
    let tail : contents ps c ≡ contents qs d = cc in
    let left = ext p older.0 in
    let right = exts q there.0 in
    let one = answering_one p (request_at p c) failed text in
    let other = answering_one q (request_at q d) failed told in
    carries-append job config later after x y (answering ps failed text c) one (answering qs failed told d)
    other
    (pair_answering_one job config later after x y p q (request_at p c) (request_at q d) failed text told
    (ap request_in left.1) (request-same p q c d head) equal
    (ap content_of left.1 ∙ head ∙ sym (ap content_of right.1)) pair)
    (λ next. pair_answering job config c d x y ps qs failed text told (one ++ later) (other ++ after) tail
    older.1 there.1 equal (extends-append one c later ext)
    (extends-append other d after exts) next)
pair_answering job config c d x y [] (q ∷ qs) failed text told later after same older there equal ext exts
    pair = absurd (cc)
pair_answering job config c d x y (p ∷ ps) [] failed text told later after same older there equal ext exts
    pair = absurd (cc)

-- a release
pub pair_releasing : (job : Bytes) (config : Configuration) (c d : Chronicle) (x y : Instance) (failed : Bool)
    → Pair job config c d x y
    → Carries job config c d (releasing x.place failed c ++ c) (releasing y.place failed d ++ d) x y
pair_releasing job config c d x y failed pair =
    carries-append job config c d x y (answering (holders x.place c) failed (status_of x.place c) c)
    (Released x.place failed ∷ [])
    (answering (holders y.place d) failed (status_of y.place d) d) (Released y.place failed ∷ [])
    (pair_released job config c d x y failed pair)
    (λ next. pair_answering job config c d x y (holders x.place c) (holders y.place d) failed
    (status_of x.place c) (status_of y.place d)
    (Released x.place failed ∷ c) (Released y.place failed ∷ d) pair.twin.bond.held pair.twin.bond.older
    pair.twin.bond.older_there
    (status-same x.place y.place c d (made-same job config c d x y pair) pair.twin.bond.alike)
    (extends-append (Released x.place failed ∷ []) c c (extends-refl c))
    (extends-append (Released y.place failed ∷ []) d d (extends-refl d)) next)

-- contents stay
pub later-contents : (ps : List ℕ) (c es : List Entry) → AreOlder (length c) ps
    → contents ps (es ++ c) ≡ contents ps c
later-contents [] c es older = refl
later-contents (p ∷ ps) c es older = ap₂ (λ (a : Content) (b : List Content). a ∷ b)
    (ap content_of (entry-append p es c older.0).1) (later-contents ps c es older.1)

pub later-older : (ps : List ℕ) (c es : List Entry) → AreOlder (length c) ps → AreOlder (length (es ++ c)) ps
later-older [] c es older = tt
later-older (p ∷ ps) c es older = ((entry-append p es c older.0).0, later-older ps c es older.1)
