use Rattle.std.specs.Prelude.{ℕ, List, codes}
use Rattle.up_image.specs.declared.image_error.ImageError.{ImageError}
use Rattle.up_image.specs.declared.image_error.ImageError.TheVariants.{ImageTooLarge, BadMagic, BadVersion, Truncated, Trailing, BadTable, Memory}

-- the number of a refusal
abbrev pub number_of : ImageError → ℕ
number_of ImageTooLarge = 22
number_of BadMagic = 30
number_of BadVersion = 31
number_of Truncated = 32
number_of Trailing = 33
number_of BadTable = 34
number_of Memory = 42

-- its name
abbrev pub name_of : ImageError → List ℕ
name_of ImageTooLarge = codes "ImageTooLarge"
name_of BadMagic = codes "BadMagic"
name_of BadVersion = codes "BadVersion"
name_of Truncated = codes "Truncated"
name_of Trailing = codes "Trailing"
name_of BadTable = codes "BadTable"
name_of Memory = codes "Memory"
