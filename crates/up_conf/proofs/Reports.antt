-- The faults of a folder, one file after another and then in order.
use Rattle.std.proofs.Common.{◌≡◌, ℕ, ◌+◌, ◌<◌, Bool, true, false, ◌&&◌, nat_le, List, [], ◌∷◌, ◌++◌, length, get_or, take, map, Option, Some, None, cond, refl, sym, ◌∙◌, ap, subst, option_to_list, append-nil}
use Rattle.std.specs.List.{filter_map, list_all}
use Rattle.std.proofs.lemmas.List.{map-append}
use Rattle.std.proofs.lemmas.Bool.{and_parts}
use Rattle.up_conf.specs.declared.folder.File.{File}
use Rattle.up_conf.specs.declared.report.Fault.{Fault}
use Rattle.up_stanza.specs.FaultCodes.{number_of}
use Rattle.up_conf.specs.Folders.{Spot, spot_of, spot_of_file, spots_of, IsReport}
use Rattle.up_conf.specs.Order.{put_by, in_order, is_below}
use Rattle.up_conf.specs.Outcomes.{IsFault, AreFaults}
use Rattle.up_conf.proofs.Folders.{filter_map_more}

abbrev is_told : Fault → Bool
is_told fault = nat_le (number_of fault.code) 16

both : (a b : Bool) → a ≡ true → b ≡ true → (a && b) ≡ true
both a b e f = rw (e, f) refl

all_push : (xs : List Fault) (x : Fault) → list_all is_told xs ≡ true → is_told x ≡ true → list_all is_told (xs ++ x ∷ []) ≡ true
all_push [] x all here = both _ _ here refl
all_push (y ∷ ys) x all here =
    let parts = and_parts (is_told y) (list_all is_told ys) all in
    both _ _ parts.0 (all_push ys x parts.1 here)

-- one fault more, or none
faults_more : (spots : List Spot) (faults : List Fault) (spot : Option Spot) (fault : Option Fault) → AreFaults spots faults → IsFault spot fault → AreFaults (spots ++ option_to_list spot) (faults ++ option_to_list fault)
faults_more spots faults spot None before none =
    let left : spots ++ option_to_list spot ≡ spots = ap (λ s. spots ++ option_to_list s) none ∙ append-nil spots in
    (ap (map spot_of) (append-nil faults) ∙ before.0 ∙ sym left, ap (list_all is_told) (append-nil faults) ∙ before.1)
faults_more spots faults spot (Some fault) before one =
    let left : spots ++ option_to_list spot ≡ spots ++ spot_of fault ∷ [] = ap (λ s. spots ++ option_to_list s) one.0 in
    (map-append spot_of faults (fault ∷ []) ∙ ap (λ xs. xs ++ spot_of fault ∷ []) before.0 ∙ sym left, all_push faults fault before.1 one.1)

-- the faults of the files so far, with that of one more at their end
pub faults_kept : (h : File → Option Spot) (files : List File) (i : ℕ) (file : File) (old new : List Fault) (fault : Option Fault) → i < length files → file ≡ get_or files i file → AreFaults (filter_map h (take i files)) old
    → IsFault (h file) fault → new ≡ old ++ option_to_list fault → AreFaults (filter_map h (take (i + 1) files)) new
faults_kept h files i file old new fault inside at before one after =
    let here : IsFault (h (get_or files i file)) fault = subst (λ (f : File). IsFault (h f) fault) at one in
    rw (after, filter_map_more h files i file inside) (faults_more (filter_map h (take i files)) old (h (get_or files i file)) fault before here)

map-put_by : (fault : Fault) (faults : List Fault) → map spot_of (put_by (λ x y. is_below x.path y.path) fault faults) ≡ put_by (λ x y. is_below x.path y.path) (spot_of fault) (map spot_of faults)
map-put_by fault [] = refl
map-put_by fault (other ∷ others) = by_case (is_below other.path fault.path) (map-put_by fault others)
  where
    by_case : (b : Bool) → map spot_of (put_by (λ x y. is_below x.path y.path) fault others) ≡ put_by (λ x y. is_below x.path y.path) (spot_of fault) (map spot_of others)
        → map spot_of (cond b (other ∷ put_by (λ x y. is_below x.path y.path) fault others) (fault ∷ other ∷ others)) ≡ cond b (spot_of other ∷ put_by (λ x y. is_below x.path y.path) (spot_of fault) (map spot_of others)) (spot_of fault ∷ spot_of other ∷ map spot_of others)
    by_case true rest = ap (λ spots. spot_of other ∷ spots) rest
    by_case false rest = refl

map-in_order : (faults : List Fault) → map spot_of (in_order (λ fault. fault.path) faults) ≡ in_order (λ spot. spot.path) (map spot_of faults)
map-in_order [] = refl
map-in_order (fault ∷ faults) =
    map-put_by fault (in_order (λ f. f.path) faults) ∙ ap (put_by (λ x y. is_below x.path y.path) (spot_of fault)) (map-in_order faults)

all_put_by : (fault : Fault) (faults : List Fault) → is_told fault ≡ true → list_all is_told faults ≡ true → list_all is_told (put_by (λ x y. is_below x.path y.path) fault faults) ≡ true
all_put_by fault [] here all = both _ _ here refl
all_put_by fault (other ∷ others) here all =
    let parts = and_parts (is_told other) (list_all is_told others) all in
    by_case (is_below other.path fault.path) (both _ _ parts.0 (all_put_by fault others here parts.1))
  where
    by_case : (b : Bool) → list_all is_told (other ∷ put_by (λ x y. is_below x.path y.path) fault others) ≡ true
        → list_all is_told (cond b (other ∷ put_by (λ x y. is_below x.path y.path) fault others) (fault ∷ other ∷ others)) ≡ true
    by_case true rest = rest
    by_case false rest = both _ _ here all

all_in_order : (faults : List Fault) → list_all is_told faults ≡ true → list_all is_told (in_order (λ fault. fault.path) faults) ≡ true
all_in_order [] all = refl
all_in_order (fault ∷ faults) all =
    let parts = and_parts (is_told fault) (list_all is_told faults) all in
    all_put_by fault (in_order (λ f. f.path) faults) parts.0 (all_in_order faults parts.1)

-- the faults of all files in order
pub report_sorted : (files : List File) (faults : List Fault) → AreFaults (filter_map (spot_of_file files) files) faults → IsReport files (in_order (λ fault. fault.path) faults)
unfolding spots_of
report_sorted files faults are = record {
  spots = map-in_order faults ∙ ap (in_order (λ spot. spot.path)) are.0;
  codes = all_in_order faults are.1;
}
