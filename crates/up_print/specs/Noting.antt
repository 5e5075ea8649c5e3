-- What a stream that keeps its failures has noted.
use Rattle.std.specs.Prelude.{Bool}
use Rattle.up_print.specs.declared.noted.Noted.{Noted}

-- whether a call of it failed
abbrev pub has_failed : {T : Type 0} → Noted T → Bool
has_failed noted = noted.failed

abbrev pub inner_of : {T : Type 0} → Noted T → T
inner_of noted = noted.inner
