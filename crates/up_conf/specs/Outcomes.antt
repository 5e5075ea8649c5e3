-- What reading the files of a folder gives.
use Rattle.std.specs.Prelude.{◌≡◌, nat_le, true, List, map, Option, None, Some}
use Rattle.std.specs.List.{list_all}
use Rattle.up_conf.specs.declared.report.Fault.{Fault}
use Rattle.up_stanza.specs.FaultCodes.{number_of}
use Rattle.up_conf.specs.Folders.{Spot, spot_of}

-- the fault at this place, with a code from 1 to 16, or none
abbrev pub IsFault : Option Spot → Option Fault → Type 0
IsFault spot None = spot ≡ None
IsFault spot (Some fault) = (spot ≡ Some (spot_of fault)) × (nat_le (number_of fault.code) 16 ≡ true)

-- the faults at these places, with such codes
abbrev pub AreFaults : List Spot → List Fault → Type 0
AreFaults spots faults = (map spot_of faults ≡ spots)
    × (list_all (λ fault. nat_le (number_of fault.code) 16) faults ≡ true)
