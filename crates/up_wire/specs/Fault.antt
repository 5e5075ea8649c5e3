use Rattle.std.specs.Prelude.{ℕ}
use Rattle.up_wire.specs.declared.fault.FrameFault.{FrameFault}
use Rattle.up_wire.specs.declared.fault.FrameFault.TheVariants as frame
use Rattle.up_wire.specs.declared.fault.WireFault.{WireFault}
use Rattle.up_wire.specs.declared.fault.WireFault.TheVariants.{FrameTooLarge, BadFrame, BadWord, Memory}

-- the number of a refusal
abbrev pub number_of : WireFault → ℕ
number_of FrameTooLarge = 50
number_of BadFrame = 51
number_of BadWord = 52
number_of Memory = 42

-- the refusal that a frame's fault is
abbrev pub wire_fault : FrameFault → WireFault
wire_fault frame.TooLarge = FrameTooLarge
wire_fault frame.Malformed = BadFrame
