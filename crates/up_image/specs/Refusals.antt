-- Why a folder isn't compiled.
use Rattle.std.specs.Prelude.{ℕ, List, codes}
use Rattle.up_image.specs.declared.refusal.CompileError.{CompileError}
use Rattle.up_image.specs.declared.refusal.CompileError.TheVariants.{TooManyJobs, SameName, ImageTooLarge, Memory}

-- the number of a refusal
abbrev pub number_of : CompileError → ℕ
number_of TooManyJobs = 20
number_of SameName = 21
number_of ImageTooLarge = 22
number_of Memory = 42

-- its name, as it is printed
abbrev pub name_of : CompileError → List ℕ
name_of TooManyJobs = codes "TooManyJobs"
name_of SameName = codes "SameName"
name_of ImageTooLarge = codes "ImageTooLarge"
name_of Memory = codes "Memory"
