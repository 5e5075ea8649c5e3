-- What is printed depends on no more than one byte past the most that a bundle has.
use Rattle.std.proofs.Common.{◌≡◌, ◌⊎◌, ℕ, ◌<◌, ◌≤◌, Bool, true, false, List, Result, length, take, nat_le, length-take, arith, refl, sym, ap, ⊎_elim, subst, inl, inr, ◌∙◌, Option, Some, None, codes, []}
use Rattle.std.specs.Prelude.{Err, IfErr, IfOk, IfSome, Ok, Vec}
use Rattle.std.specs.Io.KnownBytes.{Appends}
use Rattle.std.proofs.lemmas.Bool.{cases_lt}
use Rattle.std.proofs.lemmas.Bool.Decides.{nat_tests}
use Rattle.std.proofs.lemmas.List.{take_all}
use Rattle.up_print.specs.declared.printed.Printed.{Printed}
use Rattle.up_script.specs.Bundle.{files_of, later_folders, lines_of}
use Rattle.up_print.specs.Folders.{prints, unusable, compile_outcome}
use Rattle.up_disk.specs.declared.bundle.BundleRun.{BundleRun}
use Rattle.up_disk.specs.Compiling.{Compiles, Folders}
use Rattle.up_disk.specs.Replay.{bundle_printed, output_by, play_run, Prints, Replayed, IsCutOff, IsStopped, Replays}
use Rattle.up_disk.proofs.Compiling.{some_made, some_are}
use Rattle.up_print.specs.Writing.{IsBegun}
use Rattle.up_print.proofs.Reports.{any_report}
use Rattle.up_model.specs.ExitStatuses.{status_number}
use Rattle.up_model.specs.declared.exit_status.ExitStatus.{ExitStatus}
use Rattle.up_model.specs.declared.exit_status.ExitStatus.TheVariants.{Unusable}

-- some folders of a bundle, compiled
any_folders : (lines : List (List ℕ)) → Folders lines
any_folders lines = record {
  first = compile_outcome (any_report (files_of lines)).0 (files_of lines);
  is = record { report = (any_report (files_of lines)).0; is = (any_report (files_of lines)).1; same = refl };
  later = some_made (later_folders lines);
  are = some_are (later_folders lines);
}

-- what is printed for a bundle that is too long tells of no folder
other_folders : (base : List (List ℕ × List ℕ)) (name bytes others : List ℕ) (folders : Folders (lines_of bytes)) (those : Folders (lines_of others)) → nat_le (length bytes) 67108864 ≡ false
    → nat_le (length others) 67108864 ≡ false → bundle_printed base name bytes folders ≡ bundle_printed base name others those
unfolding bundle_printed
other_folders base name bytes others folders those one two = rw (one, two) refl

long : (n : ℕ) → 67108864 < n → nat_le n 67108864 ≡ false
long n more = grind (arith, nat_tests)

-- what is printed for a bundle's first bytes is printed for the bundle
pub prints_take : (all : List ℕ) (made : Printed) → Prints [] (codes "-") (take 67108865 all) made → Prints [] (codes "-") all made
prints_take all made had = ⊎_elim by_long by_short (cases_lt 67108864 (length all))
  where
    by_short : length all ≤ 67108864 → Prints [] (codes "-") all made
    by_short few = let whole : length all ≤ 67108865 = omega arith in subst (λ bytes. Prints [] (codes "-") bytes made) (take_all 67108865 all whole) had

    by_long : 67108864 < length all → Prints [] (codes "-") all made
    by_long more =
        let any = any_folders (lines_of all) in
        let size : 67108864 < length (take 67108865 all) = rw length-take (omega arith) in
        record { folders = any; same = had.same ∙ other_folders [] (codes "-") (take 67108865 all) all had.folders any (long _ size) (long _ more) }

-- what is printed for a bundle that is too long
pub prints_long : (base : List (List ℕ × List ℕ)) (name bytes : List ℕ) (made : Printed) → 67108864 < length bytes → made ≡ prints (unusable name) Unusable → Prints base name bytes made
unfolding bundle_printed
prints_long base name bytes made more is = record { folders = any_folders (lines_of bytes); same = is ∙ rw (long _ more) refl }

few : (n : ℕ) → n ≤ 67108864 → nat_le n 67108864 ≡ true
few n less = grind (arith, nat_tests)

-- what is printed for a bundle that is compiled
pub prints_run : (base : List (List ℕ × List ℕ)) (name bytes : List ℕ) (run : Result BundleRun Printed) (made : Printed) → length bytes ≤ 67108864
    → Compiles bytes run → made ≡ output_by (play_run base name) run → Prints base name bytes made
unfolding bundle_printed
prints_run base name bytes run made less had is =
    record { folders = had.folders; same = is ∙ ap (output_by (play_run base name)) had.same ∙ sym (rw (few _ less) refl) }

-- how a writer ends: all was written, or it failed
abbrev pub Wrote : Printed → ExitStatus → (unwritten : Bool) → Option (List ℕ) → Option (List ℕ) → Type 0
Wrote made status unwritten old new = ((status ≡ made.status) × Appends old new made.text) ⊎ ((status ≡ Unusable) × (unwritten ≡ true))

replayed_whole : (all bytes : List ℕ) (made : Printed) (status : ExitStatus) (old new : Option (List ℕ)) → bytes ≡ take 67108865 all → Prints [] (codes "-") bytes made
    → (status ≡ made.status) × Appends old new made.text → Replayed all (status_number status) old new
replayed_whole all bytes made status old new front had written =
    let whole = prints_take all made (subst (λ b. Prints [] (codes "-") b made) front had) in
    record {
      folders = whole.folders;
      ends = ap status_number (written.0 ∙ ap (λ (m : Printed). m.status) whole.same);
      text = subst (λ text. Appends old new text) (ap (λ (m : Printed). m.text) whole.same) written.1;
    }

cut_off : (all bytes : List ℕ) (made : Printed) (old new : Option (List ℕ)) → bytes ≡ take 67108865 all → Prints [] (codes "-") bytes made
    → IsBegun old new made.text → IsCutOff all old new
cut_off all bytes made old new front had begun =
    let whole = prints_take all made (subst (λ b. Prints [] (codes "-") b made) front had) in
    (whole.folders, subst (λ text. IsBegun old new text) (ap (λ (m : Printed). m.text) whole.same) begun)

-- what was written for a bundle that was read
played : (all bytes : List ℕ) (made : Printed) (status : ExitStatus) (unread unwritten : Bool) (old new : Option (List ℕ)) → bytes ≡ take 67108865 all → Prints [] (codes "-") bytes made
    → Wrote made status unwritten old new → IsBegun old new made.text → Replays all (status_number status) unread unwritten old new
played all bytes made status unread unwritten old new front had (inl written) begun =
    let whole = replayed_whole all bytes made status old new front had written in
    ((λ below. whole), λ three. inl (subst (λ n. Replayed all n old new) three whole))
played all bytes made status unread unwritten old new front had (inr failed) begun = (
  (λ below. absurd (omega (arith, ap status_number failed.0, below))),
  λ three. inr (inr (failed.1, cut_off all bytes made old new front had begun)),
)

-- the line that says that nothing could be read is written, or its beginning
unread_line : (all : List ℕ) (made : Printed) (status : ExitStatus) (unread unwritten : Bool) (old new : Option (List ℕ)) → made ≡ prints (unusable (codes "-")) Unusable → unread ≡ true
    → Wrote made status unwritten old new → IsBegun old new made.text → Replays all (status_number status) unread unwritten old new
unread_line all made status unread unwritten old new same failed wrote begun = (
  (λ below. absurd (omega (arith, ap status_number (by_end wrote), below))),
  λ three. inr (inl (failed, subst (λ text. IsBegun old new text) (ap (λ (m : Printed). m.text) same) begun)),
)
  where
    by_end : Wrote made status unwritten old new → status ≡ Unusable
    by_end (inl written) = written.0 ∙ ap (λ (m : Printed). m.status) same
    by_end (inr stopped) = stopped.0

-- what was written for what was read of a reader's bytes, if these are known
pub written_known : {A E : Type 0} (known : Option (List ℕ)) (read : Result (Vec ℕ A) E) (made : Printed) (status : ExitStatus) (unread unwritten : Bool) (old new : Option (List ℕ))
    → IfOk read (λ bytes. IfSome known (λ all. bytes.items ≡ take 67108865 all)) → IfOk read (λ bytes. Prints [] (codes "-") bytes.items made)
    → IfErr read (λ _. (unread ≡ true) × (made ≡ prints (unusable (codes "-")) Unusable))
    → Wrote made status unwritten old new → IsBegun old new made.text
    → IfSome known (λ all. Replays all (status_number status) unread unwritten old new)
written_known None read made status unread unwritten old new front had same wrote begun = tt
written_known (Some all) (Ok bytes) made status unread unwritten old new front had same wrote begun = played all bytes.items made status unread unwritten old new front had wrote begun
written_known (Some all) (Err fault) made status unread unwritten old new front had same wrote begun = unread_line all made status unread unwritten old new same.1 same.0 wrote begun

-- nothing is promised of a status past 3
pub refused_known : (known : Option (List ℕ)) (status : ℕ) (unread unwritten : Bool) (old new : Option (List ℕ)) → 3 < status → IfSome known (λ all. Replays all status unread unwritten old new)
refused_known None status unread unwritten old new past = tt
refused_known (Some all) status unread unwritten old new past = ((λ below. absurd (omega (arith, past, below))), λ same. absurd (omega (arith, past, same)))
