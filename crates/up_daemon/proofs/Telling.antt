-- What was fed and given, one input more.
use Rattle.std.proofs.Common.{◌≡◌, ◌++◌, ◌∷◌, [], List, map, refl}
use Rattle.std.proofs.lemmas.List.{map-append}
use Rattle.up_model.specs.declared.input.Input.{Input}
use Rattle.up_model.specs.declared.input.Input.TheVariants as input
use Rattle.up_model.specs.declared.output.Output.{Output}
use Rattle.up_model.specs.Answers.{answer, answers, after_all}
use Rattle.up_model.specs.Chronicle.{Chronicle}
use Rattle.up_model.specs.Configuration.{Configuration}
use Rattle.up_engine.proofs.RunLemmas.{answers_push}
use Rattle.up_daemon.specs.Answering.{outputs_in}
use Rattle.up_daemon.specs.Rounds.{Reaches, ran, ran_not, Opens, Begins, HasBegun, ReadsClock, ClockFails, FindsEnd, FindsNone, PollFails, LetsIn, NobodyWaits, AcceptFails, IsFull, PassesOver, FindsNothing, FindsBytes, FindsFault, FindsLast, ReadFails, Closes, ClosesUnrecorded, HasRead, Enters, HasServed, TakesTurn, HasTurned, NothingWaits, Writes, WriteFails, Starts, StartFails, Signals, SignalFails, PassesEvent, Replies}
use Rattle.up_daemon.specs.RoundStates.{Part, DaemonState, RoundState}

-- one input more
gave_more : (config : Configuration) (c : Chronicle) (fed : List Input) (gave : List (List Output)) (given : Input) (outputs : List Output)
    → outputs ≡ outputs_in (answer config (after_all config c fed) given) → gave ≡ map outputs_in (answers config c fed)
    → gave ++ outputs ∷ [] ≡ map outputs_in (answers config c (fed ++ given ∷ []))
gave_more config c fed gave given outputs is so_far =
    rw (answers_push config c fed given, map-append outputs_in (answers config c fed) (answer config (after_all config c fed) given ∷ []), so_far, is) refl

-- what a round gave for what it was fed are the model's answers
pub gave_answers : (config : Configuration) (c : Chronicle) (start : DaemonState) (part : Part) (state : RoundState)
    → Reaches config c start part state → state.gave ≡ map outputs_in (answers config c state.fed)
unfolding answers
gave_answers config c start part state Opens = refl
gave_answers config c start part state (Begins event later outputs was none is reaches) =
    let so_far = gave_answers config c start _ _ reaches in
    gave_more config c was.fed was.gave (input.Emit event) outputs is so_far
gave_answers config c start part state (HasBegun was none reaches) = gave_answers config c start _ _ reaches
gave_answers config c start part state (ReadsClock reading outputs was is reaches) =
    let so_far = gave_answers config c start _ _ reaches in
    gave_more config c was.fed was.gave (input.Clock reading) outputs is so_far
gave_answers config c start part state (ClockFails was reaches) = gave_answers config c start _ _ reaches
gave_answers config c start part state (FindsEnd who its how outputs was none is reaches) =
    let so_far = gave_answers config c start _ _ reaches in
    gave_more config c was.fed was.gave (input.Ended who its how) outputs is so_far
gave_answers config c start part state (FindsNone was none reaches) = gave_answers config c start _ _ reaches
gave_answers config c start part state (PollFails was none reaches) = gave_answers config c start _ _ reaches
gave_answers config c start part state (LetsIn number was few nobody reaches) = gave_answers config c start _ _ reaches
gave_answers config c start part state (NobodyWaits was few reaches) = gave_answers config c start _ _ reaches
gave_answers config c start part state (AcceptFails was few reaches) = gave_answers config c start _ _ reaches
gave_answers config c start part state (IsFull was many reaches) = gave_answers config c start _ _ reaches
gave_answers config c start part state (PassesOver peer unread was many reaches) = gave_answers config c start _ _ reaches
gave_answers config c start part state (FindsNothing peer unread was few reaches) = gave_answers config c start _ _ reaches
gave_answers config c start part state (FindsBytes piece rest requests peer unread was few is frames reaches) = gave_answers config c start _ _ reaches
gave_answers config c start part state (FindsFault piece peer unread was few is broken reaches) = gave_answers config c start _ _ reaches
gave_answers config c start part state (FindsLast peer unread was few reaches) = gave_answers config c start _ _ reaches
gave_answers config c start part state (ReadFails peer unread was few reaches) = gave_answers config c start _ _ reaches
gave_answers config c start part state (Closes number among was reaches) = gave_answers config c start _ _ reaches
gave_answers config c start part state (ClosesUnrecorded number among was reaches) = gave_answers config c start _ _ reaches
gave_answers config c start part state (HasRead was reaches) = gave_answers config c start _ _ reaches
gave_answers config c start part state (Enters request given source clients outputs was none below entered asked is reaches) =
    let so_far = gave_answers config c start _ _ reaches in
    gave_more config c was.fed was.gave given outputs is so_far
gave_answers config c start part state (HasServed was none rest reaches) = gave_answers config c start _ _ reaches
gave_answers config c start part state (TakesTurn turns outputs was none few touches is reaches) =
    let so_far = gave_answers config c start _ _ reaches in
    gave_more config c was.fed was.gave input.Turn outputs is so_far
gave_answers config c start part state (HasTurned turns was none rest reaches) = gave_answers config c start _ _ reaches
gave_answers config c start part state (NothingWaits peer unwritten was none reaches) = gave_answers config c start _ _ reaches
gave_answers config c start part state (Writes count peer unwritten was some reaches) = gave_answers config c start _ _ reaches
gave_answers config c start part state (WriteFails peer unwritten was some reaches) = gave_answers config c start _ _ reaches
gave_answers config c start part state (Starts among here order pid outputs left was first is reaches) =
    let so_far = gave_answers config c start _ _ reaches in
    gave_more config c was.fed was.gave (ran order pid) outputs is so_far
gave_answers config c start part state (StartFails among here order outputs left was first is reaches) =
    let so_far = gave_answers config c start _ _ reaches in
    gave_more config c was.fed was.gave (ran_not order) outputs is so_far
gave_answers config c start part state (Signals among here who pid signal left was first reaches) = gave_answers config c start _ _ reaches
gave_answers config c start part state (SignalFails among here who pid signal left was first reaches) = gave_answers config c start _ _ reaches
gave_answers config c start part state (PassesEvent among here event left was first reaches) = gave_answers config c start _ _ reaches
gave_answers config c start part state (Replies among here id answer left clients was first is reaches) = gave_answers config c start _ _ reaches
