-- What changes from one list of jobs to another.
use Rattle.std.specs.Prelude.{◌≡◌, Bool, Decides, is_none, if◌then◌else◌, List, [], ◌∷◌, ◌++◌, Option, None, Some, codes}
use Rattle.std.specs.List.{flat_map}
use Rattle.std.specs.Str.{bytes_eq}
use Rattle.up_value.specs.Values.{Bytes}
use Rattle.up_conf.specs.declared.job.JobDef.{JobDef}
use Rattle.up_conf.specs.Order.{in_order}
use Rattle.up_tools.specs.declared.changes.difference.Change.{Change}
use Rattle.up_tools.specs.declared.changes.difference.Change.TheVariants.{Added, Removed, Changed}
use Rattle.up_tools.specs.declared.changes.difference.Difference.{Difference}
use Rattle.up_tools.specs.declared.changes.part.Part.{Part}
use Rattle.up_tools.specs.Parts.{Agree, name_of, parts}

-- the first job of this name
abbrev pub job_named : Bytes → List JobDef → Option JobDef
job_named name [] = None
job_named name (job ∷ jobs) = if bytes_eq job.name name then Some job else job_named name jobs

-- a part, if it isn't in common
abbrev pub part_unless : Bool → Part → List Part
part_unless same part = if same then [] else part ∷ []

-- the parts by which two jobs differ, where a test tells whether they have one in common
abbrev pub differing : (same : Part → JobDef → JobDef → Bool) → JobDef → JobDef → List Part
differing same job other = flat_map (λ part. part_unless (same part job other) part) parts

-- the difference of two jobs of a name, if there is one
abbrev pub change_if : Bytes → List Part → List Difference
change_if name [] = []
change_if name (part ∷ rest) = record { name = name; change = Changed (part ∷ rest) } ∷ []

-- the difference of a new job and the old one of its name, if there is an old one
abbrev pub change_from : (same : Part → JobDef → JobDef → Bool) → (old : Option JobDef) → JobDef → List Difference
change_from same None job = record { name = job.name; change = Added } ∷ []
change_from same (Some other) job = change_if job.name (differing same other job)

abbrev pub change_of : (same : Part → JobDef → JobDef → Bool) → (old : List JobDef) → JobDef → List Difference
change_of same old job = change_from same (job_named job.name old) job

-- that an old job is gone, if there is no new one of its name
abbrev pub removal_of : (new : List JobDef) → JobDef → List Difference
removal_of new job = if is_none (job_named job.name new)
    then record { name = job.name; change = Removed } ∷ [] else []

-- what changes from old jobs to new ones, in byte order of names
abbrev pub differences : (same : Part → JobDef → JobDef → Bool) → (old new : List JobDef) → List Difference
differences same old new =
    in_order (λ difference. difference.name) (flat_map (removal_of new) old ++ flat_map (change_of same old) new)

-- the names of parts
abbrev pub listed : List Part → Bytes
listed [] = []
listed (part ∷ rest) = name_of part ++ flat_map (λ other. codes ", " ++ name_of other) rest

abbrev pub change_text : Change → Bytes
change_text Added = codes "added"
change_text Removed = codes "removed"
change_text (Changed parts) = codes "changed: " ++ listed parts

-- the line of a difference
unfoldable pub line_of : Difference → Bytes
line_of difference = difference.name ++ codes ": " ++ change_text difference.change ++ codes "\n"

-- the lines of what changes
unfoldable pub lines_by : (same : Part → JobDef → JobDef → Bool) → (old new : List JobDef) → Bytes
lines_by same old new = flat_map line_of (differences same old new)

-- the lines of what changes from old jobs to new ones: two jobs have a part in common where its values are equal
pub record Compares (old new : List JobDef) (lines : Bytes) : Type 0 where
  pub same : Part → JobDef → JobDef → Bool
  pub tells : (part : Part) (job other : JobDef) → Decides (same part job other) (Agree part job other)
  pub are : lines ≡ lines_by same old new
