-- Folders are compiled one after another.
use Rattle.std.proofs.Common.{◌≡◌, ◌+◌, ◌<◌, ◌≤◌, List, [], ◌∷◌, ◌++◌, length, take, drop, get_or, Option, None, Some, Result, Ok, Err, refl, sym, ap, subst, ◌∙◌, append_assoc, append-nil}
use Rattle.std.specs.Prelude.{ℕ, IfOk}
use Rattle.std.proofs.lemmas.List.{drop_more, take_more, take_all, take-append-drop}
use Rattle.std.proofs.lemmas.Option.{none-some, same_Some}
use Rattle.up_conf.specs.declared.folder.File.{File}
use Rattle.up_conf.specs.declared.job.JobDef.{JobDef}
use Rattle.up_conf.specs.declared.report.Fault.{Fault}
use Rattle.up_image.specs.declared.refusal.CompileError.{CompileError}
use Rattle.up_model.specs.declared.input.Input.{Input}
use Rattle.up_model.specs.declared.exit_status.ExitStatus.TheVariants.{Done}
use Rattle.up_print.specs.declared.printed.Printed.{Printed}
use Rattle.up_print.specs.Folders.{compile_outcome, faults_output, fault_line, prints, status_of, table_of, IsCompiled, IsTable, PrintsFaults}
use Rattle.up_print.proofs.Reports.{any_report}
use Rattle.up_script.specs.Bundle.{lines_of, files_of, later_folders, bad_line, script_line, script_text}
use Rattle.up_script.specs.Statements.{script_inputs}
use Rattle.up_disk.specs.declared.bundle.BundleRun.{BundleRun}
use Rattle.up_disk.specs.declared.compiled.Compiled.{Compiled}
use Rattle.up_disk.specs.Compiling.{all_compiled, with_folder, joined, inputs_in, run_after, run_of, unless_bad, Adds, AreCompiled, Compiles, CompilesFolders, CompilesLater, HasTables, IsOutcome, IsRefused}
use Rattle.up_disk.proofs.Outcomes.{same_table}
use Rattle.up_disk.proofs.Telling.{flat-append}

-- faults and table, each with a report of its own, are of one outcome
pub outcome : {E : Type 0} (files : List File) (made : Result (Printed × Option (List JobDef)) E) → IfOk made (λ m. PrintsFaults files m.0)
    → IfOk made (λ m. IsTable files m.1) → IfOk made (λ m. IsOutcome files m.0 m.1)
outcome files (Err other) told table = tt
outcome files (Ok made) told table = record {
  made = compile_outcome told.report files;
  is = record { report = told.report; is = told.is; same = refl };
  same = told.same;
  has = table.same ∙ same_table files table.report told.report;
}

-- the faults of folders, and those of more
pub joined_faults : (jobs others those : List JobDef) (first more : List Fault)
    → joined (faults_output (Ok (jobs, first))) (faults_output (Ok (others, more))) ≡ faults_output (Ok (those, first ++ more))
joined_faults jobs others those [] more = refl
joined_faults jobs others those (fault ∷ first) more =
    ap (λ text. prints text (status_of (fault ∷ first))) (sym (flat-append fault_line (fault ∷ first) more))

-- a folder that is compiled, and one that is refused
adds_made : (before more : Compiled) (files : List File) (faults : Printed) (table : List JobDef) (made : Result (List JobDef × List Fault) CompileError)
    → IsCompiled files made → faults ≡ faults_output made → Some table ≡ table_of made → more.faults ≡ joined before.faults faults
    → more.tables.items ≡ before.tables.items ++ table ∷ [] → Adds before files (Ok more)
adds_made before more files faults table (Ok made) is same has text tables = (
  made,
  is,
  text ∙ ap (joined before.faults) same,
  tables ∙ ap (λ jobs. before.tables.items ++ jobs ∷ []) (same_Some table made.0 has),
)
adds_made before more files faults table (Err error) is same has text tables = absurd (none-some table (sym has))

pub adds_some : (before more : Compiled) (files : List File) (faults : Printed) (table : List JobDef) → IsOutcome files faults (Some table)
    → more.faults ≡ joined before.faults faults → more.tables.items ≡ before.tables.items ++ table ∷ [] → Adds before files (Ok more)
adds_some before more files faults table of text tables = adds_made before more files faults table of.made of.is of.same of.has text tables

refused_made : (before : Compiled) (files : List File) (faults : Printed) (made : Result (List JobDef × List Fault) CompileError)
    → IsCompiled files made → faults ≡ faults_output made → None ≡ table_of made → Adds before files (Err faults)
refused_made before files faults (Ok made) is same has = absurd (none-some made.0 has)
refused_made before files faults (Err error) is same has = (error, is, same)

pub adds_none : (before : Compiled) (files : List File) (faults : Printed) → IsOutcome files faults None → Adds before files (Err faults)
adds_none before files faults of = refused_made before files faults of.made of.is of.same of.has

-- folders, and more of them
are_both : (folders more : List (List File)) (made others : List (Result (List JobDef × List Fault) CompileError))
    → AreCompiled folders made → AreCompiled more others → AreCompiled (folders ++ more) (made ++ others)
are_both [] more [] others first second = second
are_both [] more (m ∷ made) others first second = absurd first
are_both (files ∷ folders) more [] others first second = absurd first
are_both (files ∷ folders) more (m ∷ made) others first second = (first.0, are_both folders more made others first.1 second)

-- each folder can be compiled
abbrev pub some_made : (folders : List (List File)) → List (Result (List JobDef × List Fault) CompileError)
some_made [] = []
some_made (files ∷ folders) = compile_outcome (any_report files).0 files ∷ some_made folders

pub some_are : (folders : List (List File)) → AreCompiled folders (some_made folders)
some_are [] = tt
some_are (files ∷ folders) = (record { report = (any_report files).0; is = (any_report files).1; same = refl }, some_are folders)

abbrev with_last : List JobDef × List Fault → Result (List (List JobDef) × List Fault) CompileError → Result (List (List JobDef) × List Fault) CompileError
with_last made (Ok others) = Ok (others.0 ++ made.0 ∷ [], others.1 ++ made.1)
with_last made (Err error) = Err error

swap : (first last : List JobDef × List Fault) (others : Result (List (List JobDef) × List Fault) CompileError)
    → with_folder first (with_last last others) ≡ with_last last (with_folder first others)
swap first last (Ok others) = ap (λ faults. Ok (first.0 ∷ others.0 ++ last.0 ∷ [], faults)) (sym (append_assoc first.1 others.1 last.1))
swap first last (Err error) = refl

all_more : (made : List (Result (List JobDef × List Fault) CompileError)) (last : List JobDef × List Fault)
    → all_compiled (made ++ Ok last ∷ []) ≡ with_last last (all_compiled made)
all_more [] last = ap (λ faults. Ok (last.0 ∷ [], faults)) (append-nil last.1)
all_more (Ok first ∷ made) last = ap (with_folder first) (all_more made last) ∙ swap first last (all_compiled made)
all_more (Err error ∷ made) last = refl

-- of folders that have tables, none is refused before the next one
then_refused : (first : List JobDef × List Fault) (others more : Result (List (List JobDef) × List Fault) CompileError) (tables : List (List JobDef) × List Fault) (error : CompileError)
    → with_folder first others ≡ Ok tables → ((those : List (List JobDef) × List Fault) → others ≡ Ok those → more ≡ Err error) → with_folder first more ≡ Err error
then_refused first (Ok others) more tables error all next = ap (with_folder first) (next others refl)
then_refused first (Err other) more tables error all next = absurd (cc)

all_refused : (made others : List (Result (List JobDef × List Fault) CompileError)) (tables : List (List JobDef) × List Fault) (error : CompileError)
    → all_compiled made ≡ Ok tables → all_compiled (made ++ Err error ∷ others) ≡ Err error
all_refused [] others tables error all = refl
all_refused (Ok first ∷ made) others tables error all =
    then_refused first (all_compiled made) (all_compiled (made ++ Err error ∷ others)) tables error all (λ those is. all_refused made others those error is)
all_refused (Err other ∷ made) others tables error all = absurd (cc)

-- one folder more
pub has_more : (folders : List (List File)) (files : List File) (before more : Compiled) → HasTables folders before → Adds before files (Ok more)
    → HasTables (folders ++ files ∷ []) more
has_more folders files before more has adds =
    let made = adds.0 in
    record {
      made = has.made ++ Ok made ∷ [];
      are = are_both folders (files ∷ []) has.made (Ok made ∷ []) has.are (adds.1, tt);
      faults = has.faults ++ made.1;
      all = all_more has.made made ∙ ap (with_last made) has.all ∙ ap (λ tables. Ok (tables, has.faults ++ made.1)) (sym adds.3);
      same = adds.2 ∙ ap (λ first. joined first (faults_output (Ok made))) has.same ∙ joined_faults [] made.0 [] has.faults made.1;
    }

-- one that is refused
pub is_refused : (folders : List (List File)) (files : List File) (later : List (List File)) (before : Compiled) (printed : Printed) → HasTables folders before
    → Adds before files (Err printed) → IsRefused (folders ++ files ∷ later) printed
is_refused folders files later before printed has adds =
    record {
      made = has.made ++ Err adds.0 ∷ some_made later;
      are = are_both folders (files ∷ later) has.made (Err adds.0 ∷ some_made later) has.are (adds.1, some_are later);
      error = adds.0;
      all = all_refused has.made (some_made later) (before.tables.items, has.faults) adds.0 has.all;
      same = adds.2;
    }

-- before the first folder
pub none_found : (found : Compiled) → found.faults ≡ prints [] Done → found.tables.items ≡ [] → HasTables [] found
none_found found text tables = record {
  made = [];
  are = tt;
  faults = [];
  all = ap (λ those. Ok (those, [])) (sym tables);
  same = text;
}

-- the folder at a place is added, or refused
pub more_at : (folders : List (List File)) (i : ℕ) (files : List File) (before more : Compiled) → i < length folders → files ≡ get_or folders i files
    → HasTables (take i folders) before → Adds before files (Ok more) → HasTables (take (i + 1) folders) more
more_at folders i files before more within is has adds =
    let one : take (i + 1) folders ≡ take i folders ++ files ∷ [] = take_more folders i files within ∙ ap (λ its. take i folders ++ its ∷ []) (sym is) in
    subst (λ those. HasTables those more) (sym one) (has_more (take i folders) files before more has adds)

pub refused_at : (folders : List (List File)) (i : ℕ) (files : List File) (before : Compiled) (printed : Printed) → i < length folders → files ≡ get_or folders i files
    → HasTables (take i folders) before → Adds before files (Err printed) → IsRefused folders printed
refused_at folders i files before printed within is has adds =
    let left : drop i folders ≡ files ∷ drop (i + 1) folders = drop_more folders i files within ∙ ap (λ its. its ∷ drop (i + 1) folders) (sym is) in
    let whole : take i folders ++ files ∷ drop (i + 1) folders ≡ folders = ap (λ those. take i folders ++ those) (sym left) ∙ take-append-drop i folders in
    subst (λ those. IsRefused those printed) whole (is_refused (take i folders) files (drop (i + 1) folders) before printed has adds)

-- all folders are compiled
pub all_at : (folders : List (List File)) (i : ℕ) (found : Compiled) → length folders ≤ i → HasTables (take i folders) found → HasTables folders found
all_at folders i found past has = subst (λ those. HasTables those found) (take_all i folders past) has

-- what is to be run once the first folder is compiled, by what comes of the later ones
pub later_made : {E : Type 0} (folders : List (List File)) (faults : Printed) (jobs : List JobDef) (read : List (List JobDef) → Result (List Input) ℕ) (found : Compiled) (made : Result BundleRun E)
    → HasTables folders found → IfOk made (λ run. (run.faults ≡ joined faults found.faults) × (run.table ≡ jobs) × (run.read ≡ read found.tables.items))
    → IfOk made (λ run. CompilesLater folders faults jobs read (Ok run))
later_made folders faults jobs read found (Err other) has is = tt
later_made folders faults jobs read found (Ok run) has is = record {
  later = has.made;
  are = has.are;
  same = ap (λ text. Ok (record { faults = text; table = run.table; read = run.read })) is.0
      ∙ ap (λ table. Ok (record { faults = joined faults found.faults; table = table; read = run.read })) is.1
      ∙ ap (λ inputs. Ok (record { faults = joined faults found.faults; table = jobs; read = inputs })) is.2
      ∙ ap (λ more. Ok (record { faults = joined faults more; table = jobs; read = read found.tables.items })) has.same
      ∙ ap (λ later. run_after faults jobs later read) (sym has.all);
}

pub later_refused : (folders : List (List File)) (faults : Printed) (jobs : List JobDef) (read : List (List JobDef) → Result (List Input) ℕ) (printed : Printed)
    → IsRefused folders printed → CompilesLater folders faults jobs read (Err printed)
later_refused folders faults jobs read printed refused = record {
  later = refused.made;
  are = refused.are;
  same = ap Err refused.same ∙ ap (λ later. run_after faults jobs later read) (sym refused.all);
}

-- what is to be run after the first folder's faults is that of all folders
after_all : (first : List JobDef × List Fault) (later : Result (List (List JobDef) × List Fault) CompileError) (read : List (List JobDef) → Result (List Input) ℕ)
    → run_after (faults_output (Ok first)) first.0 later read ≡ run_of (Ok first) later read
after_all first (Ok later) read = ap (λ faults. Ok (record { faults = faults; table = first.0; read = read later.0 })) (joined_faults first.0 [] first.0 first.1 later.1)
after_all first (Err error) read = refl

folders_made : (files : List File) (folders : List (List File)) (faults : Printed) (jobs : List JobDef) (read : List (List JobDef) → Result (List Input) ℕ)
    (first : Result (List JobDef × List Fault) CompileError) (made : Result BundleRun Printed) → IsCompiled files first → faults ≡ faults_output first → Some jobs ≡ table_of first
    → CompilesLater folders faults jobs read made → CompilesFolders files folders read made
folders_made files folders faults jobs read (Ok first) made is same has later = record {
  first = Ok first;
  is = is;
  later = later.later;
  are = later.are;
  same = later.same ∙ ap (λ its. run_after its jobs (all_compiled later.later) read) same
      ∙ ap (λ its. run_after (faults_output (Ok first)) its (all_compiled later.later) read) (same_Some jobs first.0 has)
      ∙ after_all first (all_compiled later.later) read;
}
folders_made files folders faults jobs read (Err error) made is same has later = absurd (none-some jobs (sym has))

pub folders_compiled : {E : Type 0} (files : List File) (folders : List (List File)) (faults : Printed) (jobs : List JobDef) (read : List (List JobDef) → Result (List Input) ℕ)
    (made : Result (Result BundleRun Printed) E) → IsOutcome files faults (Some jobs) → IfOk made (CompilesLater folders faults jobs read) → IfOk made (CompilesFolders files folders read)
folders_compiled files folders faults jobs read (Err other) of later = tt
folders_compiled files folders faults jobs read (Ok made) of later = folders_made files folders faults jobs read of.made made of.is of.same of.has later

-- where the first folder is refused
folders_none : (files : List File) (folders : List (List File)) (faults : Printed) (read : List (List JobDef) → Result (List Input) ℕ)
    (first : Result (List JobDef × List Fault) CompileError) → IsCompiled files first → faults ≡ faults_output first → None ≡ table_of first → CompilesFolders files folders read (Err faults)
folders_none files folders faults read (Ok first) is same has = absurd (none-some first.0 has)
folders_none files folders faults read (Err error) is same has = record {
  first = Err error;
  is = is;
  later = some_made folders;
  are = some_are folders;
  same = ap Err same;
}

pub folders_refused : (files : List File) (folders : List (List File)) (faults : Printed) (read : List (List JobDef) → Result (List Input) ℕ)
    → IsOutcome files faults None → CompilesFolders files folders read (Err faults)
folders_refused files folders faults read of = folders_none files folders faults read of.made of.is of.same of.has

-- the folders of a bundle that was read
pub bundle_compiled : (bytes : List ℕ) (files : List File) (folders : List (List File)) (bad : Option ℕ) (line : ℕ) (script : List ℕ) (made : Result BundleRun Printed)
    → files ≡ files_of (lines_of bytes) → folders ≡ later_folders (lines_of bytes) → bad ≡ bad_line 1 (lines_of bytes) → line ≡ script_line 1 (lines_of bytes)
    → script ≡ script_text (lines_of bytes) → CompilesFolders files folders (λ tables. unless_bad bad (script_inputs tables line script)) made → Compiles bytes made
unfolding inputs_in
bundle_compiled bytes files folders bad line script made its later wrong number text had =
    let lines = lines_of bytes in
    by_lines
    (subst (λ found. CompilesFolders (files_of lines) (later_folders lines) (λ tables. unless_bad found (script_inputs tables (script_line 1 lines) (script_text lines))) made) wrong
    (subst (λ n. CompilesFolders (files_of lines) (later_folders lines) (λ tables. unless_bad bad (script_inputs tables n (script_text lines))) made) number
    (subst (λ said. CompilesFolders (files_of lines) (later_folders lines) (λ tables. unless_bad bad (script_inputs tables line said)) made) text
    (subst (λ those. CompilesFolders (files_of lines) those (λ tables. unless_bad bad (script_inputs tables line script)) made) later
    (subst (λ those. CompilesFolders those folders (λ tables. unless_bad bad (script_inputs tables line script)) made) its had)))))
  where
    by_lines : CompilesFolders (files_of (lines_of bytes)) (later_folders (lines_of bytes)) (inputs_in (lines_of bytes)) made → Compiles bytes made
    by_lines found = record { folders = record { first = found.first; is = found.is; later = found.later; are = found.are }; same = found.same }
