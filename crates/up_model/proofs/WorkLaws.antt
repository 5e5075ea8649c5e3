-- What is due leaves less work.
use Rattle.std.proofs.Common.{◌≡◌, ℕ, ◌+◌, ◌*◌, ◌<◌, ◌≤◌, ◌==◌, ◌⊎◌, inl, inr, Bool, true, false, not, List, [], ◌∷◌, ◌++◌, length, Option, None, Some, is_some, if◌then◌else◌, refl, ap, arith, eq-eqb, ◌∙◌, subst, sym}
use Rattle.std.specs.List.{AllByRecursion}
use Rattle.up_conf.specs.declared.job.JobDef.{JobDef}
use Rattle.up_model.specs.Chronicle.{Chronicle, Entry, Given, Replied, StartOn}
use Rattle.up_model.specs.Configuration.{Configuration}
use Rattle.up_model.specs.Due.{due}
use Rattle.up_model.specs.Files.{names_in_order, job_names}
use Rattle.up_model.specs.Instances.{Instance, instances_of, all_instances}
use Rattle.up_model.specs.Moves.{may_leave, move, move_of, move_in, move_first}
use Rattle.up_model.specs.Offers.{is_open, stop_offer, stop_offer_in, start_offer, offering, offer_next}
use Rattle.up_model.specs.Readings.{goal, state_of, blocker}
use Rattle.up_model.specs.Replies.{asked, was_answered, unless_answered, unanswered, request_instance, status_if, answering_hurried, answering_last}
use Rattle.up_model.specs.declared.request.Answer.{Answer}
use Rattle.up_model.specs.Seen.{was_offered}
use Rattle.up_model.specs.Predicates.{entries_if, or_else}
use Rattle.up_model.specs.Values.{Bytes}
use Rattle.up_model.specs.Work.{offer_work, instance_work, work_in, start_work, starts_work, answer_work, work}
use Rattle.up_model.proofs.JobOffers.{offer_in, offer_first, first-by-jobs}
use Rattle.up_model.proofs.FileLaws.{files-named}
use Rattle.up_model.proofs.MoveLaws.{moves-few, Lessens, move-lessens}
use Rattle.up_model.proofs.OfferLaws.{stop_offer-lessens, start_offer-lessens}
use Rattle.up_model.proofs.Places.{count, all-counted}
use Rattle.up_model.proofs.Sparing.{IsOf, spared-offerings}

-- entries about a job and an instance of it, by which no job's `start on` has more to be offered, and the instances and these jobs together
-- have less work
pub record Lowers (offers : Bool) (names : List Bytes) (c es : List Entry) : Type 0 where
  pub whose : Bytes
  pub place : ℕ
  pub of : AllByRecursion (IsOf whose place) es
  pub each : (k : Bytes) → start_work offers k (es ++ c) ≤ start_work offers k c
  pub less : work_in offers (all_instances (es ++ c)) (es ++ c) + starts_work offers names (es ++ c) < work_in offers (all_instances c) c + starts_work offers names c

no_more : (offers : Bool) (names : List Bytes) (c d : Chronicle) → ((k : Bytes) → start_work offers k d ≤ start_work offers k c)
    → starts_work offers names d ≤ starts_work offers names c
no_more offers [] c d each = omega arith
no_more offers (name ∷ names) c d each = let rest = no_more offers names c d each in omega (arith, each name, rest)

-- what leaves one job less to do lowers the work of the jobs from it on
lowers-here : (offers : Bool) (name : Bytes) (names : List Bytes) (c es : List Entry) → Lessens offers name c es → Lowers offers (name ∷ names) c es
lowers-here offers name names c es lessens = record {
  whose = name;
  place = lessens.place;
  of = lessens.of;
  each = lessens.each;
  less = let rest = no_more offers names c (es ++ c) lessens.each in omega (arith, lessens.less, rest);
}

-- and the work of the jobs from an earlier one on
lowers-later : (offers : Bool) (name : Bytes) (names : List Bytes) (c es : List Entry) → Lowers offers names c es → Lowers offers (name ∷ names) c es
lowers-later offers name names c es lowers = record {
  whose = lowers.whose;
  place = lowers.place;
  of = lowers.of;
  each = lowers.each;
  less = omega (arith, lowers.each name, lowers.less);
}

-- the first of two lists in which there is anything has what both have if there is anything
or_else-either : (P : List Entry → Type 0) (es others : List Entry) → (es ≡ []) ⊎ P es → (others ≡ []) ⊎ P others → (or_else es others ≡ []) ⊎ P (or_else es others)
or_else-either P [] others h other = other
or_else-either P (e ∷ es) others (inl none) other = cc
or_else-either P (e ∷ es) others (inr h) other = inr h

-- so does a list of a test
entries_if-either : (P : List Entry → Type 0) (b : Bool) (es : List Entry) → (b ≡ true → P es) → (entries_if b es ≡ []) ⊎ P (entries_if b es)
entries_if-either P true es h = inr (h refl)
entries_if-either P false es h = inl refl

weaker : {P Q : Type 0} {es : List Entry} → (P → Q) → (es ≡ []) ⊎ P → (es ≡ []) ⊎ Q
weaker h (inl none) = inl none
weaker h (inr p) = inr (h p)

-- the first move among the instances of a job leaves it less to do
move_in-lessens : (offers : Bool) (name : Bytes) (xs : List Instance) (c : Chronicle) → AllByRecursion (λ x. x.file.name ≡ name) xs
    → AllByRecursion (λ x. 0 < count x.place (instances_of name c)) xs → (move_in xs c ≡ []) ⊎ Lessens offers name c (move_in xs c)
move_in-lessens offers name [] c named there = inl refl
move_in-lessens offers name (x ∷ xs) c named there =
    let own : 0 < count x.place (instances_of x.file.name c) = subst (λ n. 0 < count x.place (instances_of n c)) (sym named.0) there.0 in
    or_else-either (Lessens offers name c) (move_of x.file x c) (move_in xs c)
    (entries_if-either (Lessens offers name c) (may_leave x.file x.place c) (move x.file x c)
    (λ may. subst (λ n. Lessens offers n c (move x.file x c)) named.0 (move-lessens offers x.file x c own may)))
    (move_in-lessens offers name xs c named.1 there.1)

-- so the first move lowers the work
move_first-lowers : (offers : Bool) (names : List Bytes) (c : Chronicle) → (move_first names c ≡ []) ⊎ Lowers offers names c (move_first names c)
move_first-lowers offers [] c = inl refl
move_first-lowers offers (name ∷ names) c =
    or_else-either (Lowers offers (name ∷ names) c) (move_in (instances_of name c) c) (move_first names c)
    (weaker (lowers-here offers name names c _) (move_in-lessens offers name (instances_of name c) c (files-named name c) (all-counted (instances_of name c))))
    (weaker (lowers-later offers name names c _) (move_first-lowers offers names c))

-- the first offer among the instances of a job leaves it less to do
stop_offer_in-lessens : (config : Configuration) (name : Bytes) (xs : List Instance) (event : ℕ) (c : Chronicle) → AllByRecursion (λ x. x.file.name ≡ name) xs
    → AllByRecursion (λ x. 0 < count x.place (instances_of name c)) xs
    → (stop_offer_in config xs event c ≡ []) ⊎ Lessens true name c (stop_offer_in config xs event c)
stop_offer_in-lessens config name [] event c named there = inl refl
stop_offer_in-lessens config name (x ∷ xs) event c named there =
    let own : 0 < count x.place (instances_of x.file.name c) = subst (λ n. 0 < count x.place (instances_of n c)) (sym named.0) there.0 in
    or_else-either (Lessens true name c) (entries_if (is_open x.place c) (stop_offer config x.file x.place event c)) (stop_offer_in config xs event c)
    (entries_if-either (Lessens true name c) (is_open x.place c) (stop_offer config x.file x.place event c)
    (λ left. subst (λ n. Lessens true n c (stop_offer config x.file x.place event c)) named.0 (stop_offer-lessens config x.file x.place event c own left)))
    (stop_offer_in-lessens config name xs event c named.1 there.1)

-- what isn't so is false
not-false : (b : Bool) → not b ≡ true → b ≡ false
not-false true h = absurd cc
not-false false h = refl

-- so does the first offer to a job
offer_in-lessens : (config : Configuration) (job : JobDef) (event : ℕ) (c : Chronicle) → (offer_in config job event c ≡ []) ⊎ Lessens true job.name c (offer_in config job event c)
offer_in-lessens config job event c =
    or_else-either (Lessens true job.name c) (stop_offer_in config (instances_of job.name c) event c)
    (entries_if (not (was_offered (StartOn job.name) c)) (start_offer config job event c))
    (stop_offer_in-lessens config job.name (instances_of job.name c) event c (files-named job.name c) (all-counted (instances_of job.name c)))
    (entries_if-either (Lessens true job.name c) (not (was_offered (StartOn job.name) c)) (start_offer config job event c) (λ is. start_offer-lessens config job event c (not-false _ is)))

-- so the first offer lowers the work
offer_first-lowers : (config : Configuration) (jobs : List JobDef) (event : ℕ) (c : Chronicle) → (offer_first config jobs event c ≡ []) ⊎ Lowers true (job_names jobs) c (offer_first config jobs event c)
offer_first-lowers config [] event c = inl refl
offer_first-lowers config (job ∷ jobs) event c =
    or_else-either (Lowers true (job_names (job ∷ jobs)) c) (offer_in config job event c) (offer_first config jobs event c)
    (weaker (lowers-here true job.name (job_names jobs) c _) (offer_in-lessens config job event c))
    (weaker (lowers-later true job.name (job_names jobs) c _) (offer_first-lowers config jobs event c))

-- if an event is offered
offer_next-lowers : (config : Configuration) (event : Option ℕ) (c : Chronicle) → (offer_next config event c ≡ []) ⊎ Lowers (is_some event) (names_in_order config c) c (offer_next config event c)
offer_next-lowers config None c = inl refl
offer_next-lowers config (Some event) c =
    subst (λ es. (es ≡ []) ⊎ Lowers true (names_in_order config c) c es) (sym (first-by-jobs config event c)) (offer_first-lowers config config.jobs event c)

-- an answer leaves no more to be answered
less-answered : (o : Option ℕ) (request : ℕ) (answer : Answer) (c : Chronicle) → answer_work (unless_answered o (Replied request answer ∷ c)) ≤ answer_work (unless_answered o c)
less-answered None request answer c = omega arith
less-answered (Some asking) request answer c = by_case (request == asking) (was_answered asking c)
  where
    by_case : (b answered : Bool) → answer_work (if (if b then true else answered) then None else Some asking) ≤ answer_work (if answered then None else Some asking)
    by_case true answered = omega arith
    by_case false answered = omega arith

same-answered : (o : Option ℕ) (e : Entry) (c : Chronicle) → ((request : ℕ) → was_answered request (e ∷ c) ≡ was_answered request c)
    → answer_work (unless_answered o (e ∷ c)) ≤ answer_work (unless_answered o c)
same-answered None e c same = omega arith
same-answered (Some asking) e c same = let answered = ap (λ b. answer_work (if b then None else Some asking)) (same asking) in omega (arith, answered)

-- an entry that is due brings no request
spared-answer : (job : Bytes) (p : ℕ) (e : Entry) (c : Chronicle) → IsOf job p e → answer_work (unanswered (e ∷ c)) ≤ answer_work (unanswered c)
spared-answer job p (Given input) c of = absurd of
spared-answer job p (Replied request answer) c of = less-answered (asked c) request answer c
spared-answer job p e c of = same-answered (asked c) e c (λ request. refl)

spared-answers : (job : Bytes) (p : ℕ) (es c : List Entry) → AllByRecursion (IsOf job p) es → answer_work (unanswered (es ++ c)) ≤ answer_work (unanswered c)
spared-answers job p [] c of = omega arith
spared-answers job p (e ∷ es) c of = let rest = spared-answers job p es c of.1 in omega (arith, spared-answer job p e (es ++ c) of.0, rest)

-- entries about a job and an instance of it
pub record IsAbout (es : List Entry) : Type 0 where
  pub whose : Bytes
  pub place : ℕ
  pub of : AllByRecursion (IsOf whose place) es

-- such entries leave less work
abbrev Falls : Configuration → Chronicle → List Entry → Type 0
Falls config c es = IsAbout es × (work config (es ++ c) < work config c)

-- so moves and offers do
lowers-falls : (config : Configuration) (c es : List Entry) → Lowers (is_some (offering c)) (names_in_order config c) c es → Falls config c es
unfolding work
lowers-falls config c es lowers = (record { whose = lowers.whose; place = lowers.place; of = lowers.of }, omega (arith, same, lowers.less, answers))
  where
    total : Bool → Chronicle → ℕ
    total offers d = work_in offers (all_instances d) d + starts_work offers (names_in_order config c) d

    same : total (is_some (offering (es ++ c))) (es ++ c) ≡ total (is_some (offering c)) (es ++ c)
    same = ap (λ event. total (is_some event) (es ++ c)) (spared-offerings lowers.whose lowers.place es c lowers.of)

    answers : answer_work (unanswered (es ++ c)) ≤ answer_work (unanswered c)
    answers = spared-answers lowers.whose lowers.place es c lowers.of

-- an answer leaves moves and offers as they were
works-replied : (offers : Bool) (xs : List Instance) (request : ℕ) (answer : Answer) (c : Chronicle) → work_in offers xs (Replied request answer ∷ c) ≡ work_in offers xs c
works-replied offers [] request answer c = refl
works-replied offers (x ∷ xs) request answer c = ap (λ rest. instance_work offers x.place c + rest) (works-replied offers xs request answer c)

starts-replied : (offers : Bool) (names : List Bytes) (request : ℕ) (answer : Answer) (c : Chronicle) → starts_work offers names (Replied request answer ∷ c) ≡ starts_work offers names c
starts-replied offers [] request answer c = refl
starts-replied offers (name ∷ names) request answer c = ap (λ rest. start_work offers name c + rest) (starts-replied offers names request answer c)

-- the answer to this step's client leaves none to be answered
last-falls : (config : Configuration) (c : Chronicle) → (answering_last c ≡ []) ⊎ Falls config c (answering_last c)
unfolding work
last-falls config c = by_request (asked c) refl
  where
    offers : Bool
    offers = is_some (offering c)

    by_answer : (request : ℕ) (b : Bool) → asked c ≡ Some request → was_answered request c ≡ b
        → (answering_hurried (if b then None else Some request) c ≡ []) ⊎ Falls config c (answering_hurried (if b then None else Some request) c)
    by_answer request true some answered = inl refl
    by_answer request false some unsaid = inr (record { whose = []; place = 0; of = (tt, tt) }, omega (arith, works, starts, one, gone))
      where
        answer : Answer
        answer = record { ok = true; text = status_if (request_instance c) c }

        works : work_in offers (all_instances c) (Replied request answer ∷ c) ≡ work_in offers (all_instances c) c
        works = works-replied offers (all_instances c) request answer c

        starts : starts_work offers (names_in_order config c) (Replied request answer ∷ c) ≡ starts_work offers (names_in_order config c) c
        starts = starts-replied offers (names_in_order config c) request answer c

        one : answer_work (unanswered c) ≡ 1
        one = ap (λ o. answer_work (unless_answered o c)) some ∙ ap (λ b. answer_work (if b then None else Some request)) unsaid

        gone : answer_work (unanswered (Replied request answer ∷ c)) ≡ 0
        gone = ap (λ o. answer_work (unless_answered o (Replied request answer ∷ c))) some ∙ rw (eq-eqb request request refl) refl

    by_request : (o : Option ℕ) → asked c ≡ o
        → (answering_hurried (unless_answered o c) c ≡ []) ⊎ Falls config c (answering_hurried (unless_answered o c) c)
    by_request None none = inl refl
    by_request (Some request) some = by_answer request (was_answered request c) some refl

-- so what is due leaves less work
due-falls : (config : Configuration) (c : Chronicle) → (due config c ≡ []) ⊎ Falls config c (due config c)
unfolding due
due-falls config c =
    or_else-either (Falls config c) (move_first (names_in_order config c) c) (or_else (offer_next config (offering c) c) (answering_last c))
    (weaker (lowers-falls config c (move_first (names_in_order config c) c)) (move_first-lowers (is_some (offering c)) (names_in_order config c) c))
    (or_else-either (Falls config c) (offer_next config (offering c) c) (answering_last c)
    (weaker (lowers-falls config c (offer_next config (offering c) c)) (offer_next-lowers config (offering c) c))
    (last-falls config c))

-- what is due is about one job and an instance of it
pub due-about : (config : Configuration) (c : Chronicle) → (due config c ≡ []) ⊎ IsAbout (due config c)
due-about config c = weaker (λ falls. falls.0) (due-falls config c)

-- either nothing is due, or doing it leaves less work
pub falls : (config : Configuration) (c : Chronicle) → (due config c ≡ []) ⊎ (work config (due config c ++ c) < work config c)
falls config c = weaker (λ falls. falls.1) (due-falls config c)

-- the work of an offer and of an instance is bounded
offer-bounded : (offers left : Bool) → offer_work offers left ≤ 6
offer-bounded false left = omega arith
offer-bounded true true = omega arith
offer-bounded true false = omega arith

instance-bounded : (offers : Bool) (p : ℕ) (c : Chronicle) → instance_work offers p c ≤ 11
instance-bounded offers p c =
    let few = moves-few (goal p c) (state_of p c) (is_some (blocker p c)) in
    omega (arith, few, offer-bounded offers (is_open p c))

instances-bounded : (offers : Bool) (xs : List Instance) (c : Chronicle) → work_in offers xs c ≤ 11 * length xs
instances-bounded offers [] c = omega arith
instances-bounded offers (x ∷ xs) c = omega (arith, instance-bounded offers x.place c, instances-bounded offers xs c)

starts-bounded : (offers : Bool) (jobs : List JobDef) (c : Chronicle) → starts_work offers (job_names jobs) c ≤ 6 * length jobs
starts-bounded offers [] c = omega arith
starts-bounded offers (job ∷ jobs) c = omega (arith, offer-bounded offers (not (was_offered (StartOn job.name) c)), starts-bounded offers jobs c)

answer-bounded : (o : Option ℕ) → answer_work o ≤ 1
answer-bounded None = omega arith
answer-bounded (Some request) = omega arith

-- so is all that can be due
pub work-bounded : (config : Configuration) (c : Chronicle) → work config c ≤ 11 * length (all_instances c) + 6 * length config.jobs + 1
unfolding work
work-bounded config c =
    omega (arith, instances-bounded (is_some (offering c)) (all_instances c) c, starts-bounded (is_some (offering c)) config.jobs c, answer-bounded (unanswered c))
