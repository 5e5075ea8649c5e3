-- The codes of the faults of a file.
use Rattle.std.specs.Prelude.{ℕ, List, codes}
use Rattle.up_value.specs.Values.{Bytes}
use Rattle.up_stanza.specs.declared.fault.FaultCode.{FaultCode}
use Rattle.up_stanza.specs.declared.fault.FaultCode.TheVariants.{UnknownStanza, NotInProfile, ExpectedToken, UnexpectedToken, UnterminatedQuote, UnterminatedBlock, TrailingBackslash, BadExpression, ValueBeforeKey, BadNumber, BadSignal, BadName, BadPattern, BadExpansion, NotText, TooLarge, Memory}

-- the number of a code
abbrev pub number_of : FaultCode → ℕ
number_of UnknownStanza = 1
number_of NotInProfile = 2
number_of ExpectedToken = 3
number_of UnexpectedToken = 4
number_of UnterminatedQuote = 5
number_of UnterminatedBlock = 6
number_of TrailingBackslash = 7
number_of BadExpression = 8
number_of ValueBeforeKey = 9
number_of BadNumber = 10
number_of BadSignal = 11
number_of BadName = 12
number_of BadPattern = 13
number_of BadExpansion = 14
number_of NotText = 15
number_of TooLarge = 16
number_of Memory = 42

-- its name, as it is printed
abbrev pub name_of : FaultCode → Bytes
name_of UnknownStanza = codes "UnknownStanza"
name_of NotInProfile = codes "NotInProfile"
name_of ExpectedToken = codes "ExpectedToken"
name_of UnexpectedToken = codes "UnexpectedToken"
name_of UnterminatedQuote = codes "UnterminatedQuote"
name_of UnterminatedBlock = codes "UnterminatedBlock"
name_of TrailingBackslash = codes "TrailingBackslash"
name_of BadExpression = codes "BadExpression"
name_of ValueBeforeKey = codes "ValueBeforeKey"
name_of BadNumber = codes "BadNumber"
name_of BadSignal = codes "BadSignal"
name_of BadName = codes "BadName"
name_of BadPattern = codes "BadPattern"
name_of BadExpansion = codes "BadExpansion"
name_of NotText = codes "NotText"
name_of TooLarge = codes "TooLarge"
name_of Memory = codes "Memory"
