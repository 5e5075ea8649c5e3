-- What is printed of a record over an image.
use Rattle.std.proofs.Common.{◌≡◌, ◌⊎◌, inl, inr}
use Rattle.up_disk.specs.Disk.{IsUnusable, ShowsFile}
use Rattle.up_model.specs.declared.exit_status.ExitStatus.TheVariants.{Done}
use Rattle.up_model.specs.Values.{Bytes}
use Rattle.up_print.specs.declared.printed.Printed.{Printed}
use Rattle.up_script.specs.Bundle.{files_of, lines_of}
use Rattle.up_tools.specs.declared.view.View.{View}
use Rattle.up_tools.specs.Views.{ViewsShown, ViewsStored}

-- over the files by which the image was shown
pub over_shown : (image name : Bytes) (how : View) (printed made : Printed) → ShowsFile image printed → printed.status ≡ Done
    → ViewsShown printed.text how name made ⊎ IsUnusable image made → ViewsStored image how name made
over_shown image name how printed made (inl (bytes, inl (jobs, has, inl (define, done)))) is (inl (inl over)) =
    inl (bytes, inl (jobs, has, inl (record { files = files_of (lines_of printed.text); define = define.1; over = over })))
over_shown image name how printed made (inl (bytes, inl (jobs, has, inl (define, done)))) is (inl (inr unusable)) =
    inl (bytes, inl (jobs, has, inr (inr unusable)))
over_shown image name how printed made shows is (inr unusable) = inr unusable
over_shown image name how printed made (inl (bytes, inl (jobs, has, inr unusable))) is views = absurd (cc)
over_shown image name how printed made (inl (bytes, inr refused)) is views = let says = refused.says in absurd (cc)
over_shown image name how printed made (inr unusable) is views = absurd (cc)

-- why there is nothing over it
pub not_shown : (image name : Bytes) (how : View) (printed : Printed) → ShowsFile image printed → (printed.status ≡ Done → ⊥) → ViewsStored image how name printed
not_shown image name how printed (inl (bytes, inl (jobs, has, inl (define, done)))) other = absurd (other done)
not_shown image name how printed (inl (bytes, inl (jobs, has, inr unusable))) other = inl (bytes, inl (jobs, has, inr (inl unusable)))
not_shown image name how printed (inl (bytes, inr refused)) other = inl (bytes, inr refused)
not_shown image name how printed (inr unusable) other = inr unusable
