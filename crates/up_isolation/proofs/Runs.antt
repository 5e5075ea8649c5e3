-- Two whole runs: a job's part, and what it does, go by what came to its notice.
use Rattle.up_isolation.proofs.Names.{◌≡◌, inl, inr, Bool, true, false, List, [], ◌∷◌, ◌++◌, if◌then◌else◌}
use Rattle.up_isolation.proofs.Names.{bytes_eq, refl, sym, ◌∙◌, ap, ap₂, JobDef, Input, next, is_expected, after}
use Rattle.up_isolation.proofs.Names.{after_all, Chronicle, Entry, Queued, Offered, Fired, Made, Aimed, Restarted}
use Rattle.up_isolation.proofs.Names.{Released, Failed, Respawned, Entered, Ordered, Signalled, Replied, Entering}
use Rattle.up_isolation.proofs.Names.{Configuration, in_force, event_at, request_at, Bytes, Bindings, work, settle}
use Rattle.up_isolation.proofs.Names.{items, items_if, hears_event, Item, noticed, owns, was_asked, Notice}
use Rattle.up_isolation.proofs.Names.{notices, deeds}
use Rattle.up_isolation.specs.Parts as parts
use Rattle.up_isolation.specs.Parts.{owns_expression}
use Rattle.up_isolation.specs.Isolation.{MeanTheSame, IsUnique, GrowsByAtMostOne}
use Rattle.up_isolation.specs.Views as views
use Rattle.up_isolation.proofs.Likes.{only}
use Rattle.up_isolation.proofs.Alone.{alone, begin_by}
use Rattle.up_isolation.proofs.Following.{Tracks, follows-part, Left, Same, More, tracks-after, tracks-next}
use Rattle.up_isolation.proofs.Following.{tracked}

only-same : (job : Bytes) (first second : Configuration) → MeanTheSame job first second
    → only job first ≡ only job second
only-same job first second same =
    ap₂ (λ (base : Bindings) (its : List JobDef × List Bytes). record { base = base; jobs = its.0; removed = its.1 })
    same.0 (ap₂ (λ (js : List JobDef) (names : List Bytes). (js, names)) same.1 same.2)

-- alone the job does the same, if its part of both configurations is the same
alone-same : (job : Bytes) (first second : Configuration) (ns : List Notice)
    → only job first ≡ only job second → alone job first ns ≡ alone job second ns
unfolding alone
alone-same job first second [] same = refl
alone-same job first second (notice ∷ ns) same =
    ap₂ (λ (start : Configuration) (d : Chronicle).
    settle (work (in_force start (begin_by job (in_force start d) notice d)) (begin_by job (in_force start d) notice d))
    (in_force start (begin_by job (in_force start d) notice d)) (begin_by job (in_force start d) notice d)) same
    (alone-same job first second ns same)

-- in two runs in which the same comes to its notice, the job does the same
pub isolated : (job : Bytes) (first second : Configuration) (c d : Chronicle) → MeanTheSame job first second
    → Tracks job first c → Tracks job second d
    → views.view job first c ≡ views.view job second d → deeds job c ≡ deeds job d
isolated job first second c d same tracks other seen =
    tracks.base.like.deeds
    ∙ ap (deeds job) (ap (alone job first) seen ∙ alone-same job first second (views.view job second d)
    (only-same job first second same))
    ∙ sym other.base.like.deeds

-- and its part is the same
pub parts-same : (job : Bytes) (first second : Configuration) (c d : Chronicle) → MeanTheSame job first second
    → Tracks job first c → Tracks job second d
    → views.view job first c ≡ views.view job second d → parts.part job first c ≡ parts.part job second d
parts-same job first second c d same tracks other seen =
    follows-part job first c (alone job first (views.view job first c)) tracks
    ∙ ap₂ (λ (A : Configuration) (t : Chronicle). parts.part job A t) (only-same job first second same)
    (ap (alone job first) seen ∙ alone-same job first second (views.view job second d)
    (only-same job first second same))
    ∙ sym (follows-part job second d (alone job second (views.view job second d)) other)

-- the view is read off the part
abbrev noticed_in : List Item → List Notice
noticed_in [] = []
noticed_in (parts.Noticed notice ∷ is) = notice ∷ noticed_in is
noticed_in (item ∷ is) = noticed_in is

noticed-append : (ns : List Notice) (is : List Item) → noticed_in (noticed ns ++ is) ≡ ns ++ noticed_in is
noticed-append [] is = refl
noticed-append (n ∷ ns) is = ap (λ rest. n ∷ rest) (noticed-append ns is)

-- items of which none is of the view
abbrev AreBeside : List Item → Type 0
AreBeside is = (rest : List Item) → noticed_in (is ++ rest) ≡ noticed_in rest

beside-if : (b : Bool) (item : Item) → ((rest : List Item) → noticed_in (item ∷ rest) ≡ noticed_in rest)
    → AreBeside (items_if b item)
beside-if true item is = is
beside-if false item is = λ rest. refl

beside-offer : (b : Bool) (is : List Item) → AreBeside is → AreBeside (if b then is else [])
beside-offer true is beside = beside
beside-offer false is beside = λ rest. refl

items-beside : (job : Bytes) (config : Configuration) (e : Entry) (c : Chronicle)
    → AreBeside (items job config e c)
items-beside job config (Queued (Entering i to) event) c = beside-if (owns job i c) _ (λ rest. refl)
items-beside job config (Offered expression event) c =
    beside-offer (owns_expression job expression c) _
    (beside-if (hears_event job config (event_at event c) c) _ (λ rest. refl))
items-beside job config (Fired expression taken) c =
    beside-if (owns_expression job expression c) _ (λ rest. refl)
items-beside job config (Made file name) c = beside-if (bytes_eq file.name job) _ (λ rest. refl)
items-beside job config (Aimed i aim environment its) c = beside-if (owns job i c) _ (λ rest. refl)
items-beside job config (Restarted i its) c = beside-if (owns job i c) _ (λ rest. refl)
items-beside job config (Released i failed) c = beside-if (owns job i c) _ (λ rest. refl)
items-beside job config (Failed i its) c = beside-if (owns job i c) _ (λ rest. refl)
items-beside job config (Respawned i moment) c = beside-if (owns job i c) _ (λ rest. refl)
items-beside job config (Entered i to) c = beside-if (owns job i c) _ (λ rest. refl)
items-beside job config (Ordered i its) c = beside-if (owns job i c) _ (λ rest. refl)
items-beside job config (Signalled i signal by_timer) c = beside-if (owns job i c) _ (λ rest. refl)
items-beside job config (Replied request answer) c =
    beside-if (was_asked job (request_at request c)) _ (λ rest. refl)
items-beside job config e c = λ rest. refl

view-part : (job : Bytes) (config : Configuration) (c : Chronicle)
    → noticed_in (parts.part job config c) ≡ views.view job config c
unfolding parts.part views.view
view-part job config [] = refl
view-part job config (e ∷ c) =
    noticed-append (notices job (in_force config c) e c) (items job (in_force config c) e c ++ parts.part job config c)
    ∙ ap (λ ns. notices job (in_force config c) e c ++ ns) (items-beside job (in_force config c) e c (parts.part job config c)
    ∙ view-part job config c)

pub views-same : (job : Bytes) (first second : Configuration) (c d : Chronicle)
    → parts.part job first c ≡ parts.part job second d → views.view job first c ≡ views.view job second d
views-same job first second c d same =
    sym (view-part job first c) ∙ ap noticed_in same ∙ view-part job second d

-- each step adds one notice at most
pub grows : (job : Bytes) (config : Configuration) (given : Input) (c : Chronicle)
    → Tracks job config c → GrowsByAtMostOne (views.view job config c) (views.view job config (next config c given))
grows job config given c tracks = by_case (is_expected given c)
  where
    by_left : Left job config c (after config c given)
        → GrowsByAtMostOne (views.view job config c) (views.view job config (after config c given))
    by_left (Same seen next) = inl seen
    by_left (More notice seen next) = inr (notice, seen)

    by_case : (b : Bool)
        → GrowsByAtMostOne (views.view job config c) (views.view job config (if b then after config c given else c))
    by_case true = by_left (tracks-after job config given c tracks)
    by_case false = inl refl

-- the laws
pub law-isolation : (job : Bytes) (first second : Configuration) (inputs others : List Input)
    → IsUnique job first → MeanTheSame job first second
    → views.view job first (after_all first [] inputs) ≡ views.view job second (after_all second [] others)
    → deeds job (after_all first [] inputs) ≡ deeds job (after_all second [] others)
law-isolation job first second inputs others one same views =
    isolated job first second (after_all first [] inputs) (after_all second [] others) same
    (tracked job first inputs) (tracked job second others) views

pub law-one : (job : Bytes) (config : Configuration) (inputs : List Input) (given : Input)
    → IsUnique job config
    → GrowsByAtMostOne (views.view job config (after_all config [] inputs))
    (views.view job config (next config (after_all config [] inputs) given))
law-one job config inputs given one =
    grows job config given (after_all config [] inputs) (tracked job config inputs)

pub law-still : (job : Bytes) (config : Configuration) (inputs : List Input) (given : Input)
    → IsUnique job config
    → views.view job config (next config (after_all config [] inputs) given)
    ≡ views.view job config (after_all config [] inputs)
    → parts.part job config (next config (after_all config [] inputs) given)
    ≡ parts.part job config (after_all config [] inputs)
law-still job config inputs given one views =
    parts-same job config config (next config (after_all config [] inputs) given) (after_all config [] inputs)
    (refl, refl, refl)
    (tracks-next job config given (after_all config [] inputs) (tracked job config inputs))
    (tracked job config inputs) views

pub law-part : (job : Bytes) (first second : Configuration) (inputs others : List Input) (given other : Input)
    (notice : Notice) → IsUnique job first → MeanTheSame job first second
    → parts.part job first (after_all first [] inputs) ≡ parts.part job second (after_all second [] others)
    → views.view job first (next first (after_all first [] inputs) given)
    ≡ notice ∷ views.view job first (after_all first [] inputs)
    → views.view job second (next second (after_all second [] others) other)
    ≡ notice ∷ views.view job second (after_all second [] others)
    → parts.part job first (next first (after_all first [] inputs) given)
    ≡ parts.part job second (next second (after_all second [] others) other)
law-part job first second inputs others given other notice one same alike left right =
    parts-same job first second (next first (after_all first [] inputs) given)
    (next second (after_all second [] others) other) same
    (tracks-next job first given (after_all first [] inputs) (tracked job first inputs))
    (tracks-next job second other (after_all second [] others) (tracked job second others))
    (left ∙ ap (λ ns. notice ∷ ns)
    (views-same job first second (after_all first [] inputs) (after_all second [] others) alike)
    ∙ sym right)
