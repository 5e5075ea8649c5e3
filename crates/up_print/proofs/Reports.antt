-- Each folder has a report, also one that is refused.
use Rattle.std.proofs.Common.{◌≡◌, true, false, List, [], ◌∷◌, map, refl, sym, ap, subst, length, Result, Ok, Err}
use Rattle.std.specs.Prelude.{nat_le, IfOk, IfErr}
use Rattle.std.specs.List.{list_all}
use Rattle.up_stanza.specs.declared.fault.FaultCode.TheVariants.{UnknownStanza}
use Rattle.up_conf.specs.declared.folder.File.{File}
use Rattle.up_conf.specs.declared.report.Fault.{Fault}
use Rattle.up_conf.specs.FaultCodes.{number_of}
use Rattle.up_conf.specs.Folders.{Spot, spot_of, spots_of, jobs_of, IsReport}
use Rattle.up_conf.specs.declared.job.JobDef.{JobDef}
use Rattle.up_image.specs.declared.refusal.CompileError.{CompileError}
use Rattle.up_image.specs.declared.refusal.CompileError.TheVariants.{SameName, TooManyJobs, ImageTooLarge, Memory}
use Rattle.up_image.specs.Compiling.{has_twice, read_paths, Compiles, MayRefuse}
use Rattle.up_image.specs.Image.{has_image}
use Rattle.up_print.specs.Folders.{compile_outcome, IsCompiled}

-- a fault at a place
abbrev fault_at : Spot → Fault
fault_at spot = record { path = spot.path; line = spot.line; code = UnknownStanza }

spots : (all : List Spot) → map spot_of (map fault_at all) ≡ all
spots [] = refl
spots (spot ∷ all) = ap (λ others. spot ∷ others) (spots all)

codes : (all : List Spot) → list_all (λ fault. nat_le (number_of fault.code) 16) (map fault_at all) ≡ true
codes [] = refl
codes (spot ∷ all) = codes all

pub any_report : (files : List File) → (report : List Fault) × IsReport files report
any_report files = (map fault_at (spots_of files), record { spots = spots (spots_of files); codes = codes (spots_of files) })

pub refused_twice : (files : List File) → has_twice (read_paths files) ≡ true → IsCompiled files (Err SameName)
unfolding compile_outcome
refused_twice files twice = let any = any_report files in record { report = any.0; is = any.1; same = rw twice refl }

pub refused_many : (files : List File) → has_twice (read_paths files) ≡ false → nat_le (length (jobs_of files)) 1024 ≡ false → IsCompiled files (Err TooManyJobs)
unfolding compile_outcome
refused_many files apart many = let any = any_report files in record { report = any.0; is = any.1; same = rw (apart, many) refl }

pub refused_large : (files : List File) → has_twice (read_paths files) ≡ false → nat_le (length (jobs_of files)) 1024 ≡ true → has_image (jobs_of files) ≡ false
    → IsCompiled files (Err ImageTooLarge)
unfolding compile_outcome
refused_large files apart few large = let any = any_report files in record { report = any.0; is = any.1; same = rw (apart, few, large) refl }

-- what was compiled is as it should be, unless memory was refused
pub compiled_is : (files : List File) (made : Result (List JobDef × List Fault) CompileError) → IfOk made (λ m. Compiles files m.0 m.1) → IfErr made (MayRefuse files) → (made ≡ Err Memory → ⊥) → IsCompiled files made
unfolding compile_outcome
compiled_is files (Ok made) compiles may other = record {
  report = made.1;
  is = compiles.faults;
  same = rw (compiles.apart, compiles.few, compiles.small) (ap (λ jobs. Ok (jobs, made.1)) compiles.jobs);
}
compiled_is files (Err SameName) compiles may other = refused_twice files may
compiled_is files (Err TooManyJobs) compiles may other = refused_many files may.0 may.1
compiled_is files (Err ImageTooLarge) compiles may other = refused_large files may.0 may.1.0 may.1.1
compiled_is files (Err Memory) compiles may other = absurd (other refl)

pub kept_is : (files : List File) (made kept : Result (List JobDef × List Fault) CompileError) → IfOk made (λ m. Compiles files m.0 m.1) → IfErr made (MayRefuse files)
    → (kept ≡ made) × (made ≡ Err Memory → ⊥) → IsCompiled files kept
kept_is files made kept compiles may same = subst (IsCompiled files) (sym same.0) (compiled_is files made compiles may same.1)
