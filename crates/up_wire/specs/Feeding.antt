-- What a feed makes of the bytes that it is given.
use Rattle.std.specs.Prelude.{[], Option, None, Some}
use Rattle.up_wire.specs.declared.fault.FrameFault.{FrameFault}
use Rattle.up_wire.specs.declared.fault.FrameFault.TheVariants.{TooLarge, Malformed}
use Rattle.up_wire.specs.declared.fault.WireFault.{WireFault}
use Rattle.up_wire.specs.declared.fault.WireFault.TheVariants.{FrameTooLarge, BadFrame, BadWord, Memory}
use Rattle.up_model.specs.Values.{Bytes}
use Rattle.up_wire.specs.Frames.{IsFaulty, Breaks}

-- a refusal whose cause is the first frame of the bytes, or that memory ran out
abbrev pub Begins : WireFault → Bytes → Type 0
Begins FrameTooLarge bytes = IsFaulty TooLarge bytes
Begins BadFrame bytes = IsFaulty Malformed bytes
Begins BadWord bytes = ⊥
Begins Memory bytes = Unit {0}

-- the same, if the cause is the frame after the whole good ones
abbrev pub Stops : WireFault → Bytes → Type 0
Stops FrameTooLarge bytes = Breaks TooLarge bytes
Stops BadFrame bytes = Breaks Malformed bytes
Stops BadWord bytes = ⊥
Stops Memory bytes = Unit {0}

-- what a feed holds: the bytes after the last whole frame, or the fault that it answers for good
pub record FeedValue : Type 0 where
  pub rest : Bytes
  pub fault : Option FrameFault

-- the frame's fault that a refusal is
abbrev pub frame_fault : WireFault → Option FrameFault
frame_fault FrameTooLarge = Some TooLarge
frame_fault BadFrame = Some Malformed
frame_fault BadWord = None
frame_fault Memory = None

-- what a feed holds after a refusal: a frame's fault for good; out of memory what it held
abbrev pub refused : WireFault → FeedValue → FeedValue
refused FrameTooLarge before = record { rest = []; fault = Some TooLarge }
refused BadFrame before = record { rest = []; fault = Some Malformed }
refused BadWord before = before
refused Memory before = before

-- what is kept: these bytes, or all of them
abbrev pub kept_of : Option Bytes → Bytes → Bytes
kept_of None bytes = bytes
kept_of (Some rest) bytes = rest
