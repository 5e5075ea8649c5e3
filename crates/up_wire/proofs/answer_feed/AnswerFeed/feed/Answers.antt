use Rattle.std.proofs.Common.{◌≡◌, ◌∙◌, ◌++◌, Err, sym, ap, take, length, rules}
use Rattle.std.proofs.lemmas.List.{take_at}
use Rattle.up_wire.specs.Answers.{Opens, pending}
use Rattle.up_wire.proofs.Pending.{pending_more, after_fault, is_memory}
use Rattle.up_wire.proofs.answer_feed.AnswerFeed.feed.Goals as goal

pub invariant_of-self-in-Ok : goal.invariant_of-self-in-Ok
invariant_of-self-in-Ok c =
    let text = c.self.inside.text.items in
    let rest = c.self.inside.rest.items in
    let opened : Opens (pending text rest ++ c.args.piece.now) text c.extend_from_slice.new.self.items = rw c.in_ok-extend_from_slice.ensures.items (pending_more text rest c.args.piece.now c.self.invariant) in
    (c.in-Ok.ensures.taken (pending text rest ++ c.args.piece.now) opened).0

pub invariant_of-self-in-None : goal.invariant_of-self-in-None
invariant_of-self-in-None c =
    let text = c.self.inside.text.items in
    let rest = c.self.inside.rest.items in
    let opened : Opens (pending text rest ++ c.args.piece.now) text c.extend_from_slice.new.self.items = rw c.in_ok-extend_from_slice.ensures.items (pending_more text rest c.args.piece.now c.self.invariant) in
    let memory = is_memory c.in-Err.fault (pending text rest ++ c.args.piece.now) (sym c.in-None.is ∙ c.frame_fault.ensures) (c.in-Err.ensures.refused (pending text rest ++ c.args.piece.now) opened) in
    let kept = c.in-Err.ensures.kept (ap Err memory) in
    let size : c.len-joined.result ≡ length text = search rules in
    rw (c.truncate.ensures.items, size, kept.0) c.self.invariant

pub returns-in-Ok-clause-taken : goal.returns-in-Ok-clause-taken
returns-in-Ok-clause-taken c =
    let text = c.self.inside.text.items in
    let rest = c.self.inside.rest.items in
    let opened : Opens (pending text rest ++ c.args.piece.now) text c.extend_from_slice.new.self.items = rw c.in_ok-extend_from_slice.ensures.items (pending_more text rest c.args.piece.now c.self.invariant) in
    let before : pending text rest ≡ c.args.self.now.rest = ap (λ f. f.rest) c.self.view_is in
    (search rules, rw (← before) (c.in-Ok.ensures.taken (pending text rest ++ c.args.piece.now) opened).1)

pub returns-in-Some-frame_fault-clause-refused : goal.returns-in-Some-frame_fault-clause-refused
returns-in-Some-frame_fault-clause-refused c none =
    let text = c.self.inside.text.items in
    let rest = c.self.inside.rest.items in
    let opened : Opens (pending text rest ++ c.args.piece.now) text c.extend_from_slice.new.self.items = rw c.in_ok-extend_from_slice.ensures.items (pending_more text rest c.args.piece.now c.self.invariant) in
    let before : pending text rest ≡ c.args.self.now.rest = ap (λ f. f.rest) c.self.view_is in (
      rw (← before) (c.in-Err.ensures.refused (pending text rest ++ c.args.piece.now) opened),
      after_fault c.in-Err.fault c.in-Some-frame_fault.frame c.args.self.now c.clear.new.self.items c.clear-in-Some-frame_fault.new.self.items (sym c.in-Some-frame_fault.is ∙ c.frame_fault.ensures) c.clear.ensures.items c.clear-in-Some-frame_fault.ensures.items,
    )

pub returns-in-None-clause-refused : goal.returns-in-None-clause-refused
returns-in-None-clause-refused c none =
    let text = c.self.inside.text.items in
    let rest = c.self.inside.rest.items in
    let piece = c.args.piece.now in
    let opened : Opens (pending text rest ++ piece) text c.extend_from_slice.new.self.items = rw c.in_ok-extend_from_slice.ensures.items (pending_more text rest piece c.self.invariant) in
    let before : pending text rest ≡ c.args.self.now.rest = ap (λ f. f.rest) c.self.view_is in
    let stop = c.in-Err.ensures.refused (pending text rest ++ piece) opened in
    let memory = is_memory c.in-Err.fault (pending text rest ++ piece) (sym c.in-None.is ∙ c.frame_fault.ensures) stop in
    let kept = c.in-Err.ensures.kept (ap Err memory) in
    let joined : c.len-joined.result ≡ length text = search rules in
    let size : length rest ≡ c.len-before.result = search rules in
    let its_text : c.truncate.new.self.items ≡ text = c.truncate.ensures.items ∙ (ap (λ n. take n c.take_answers.new.text.items) joined ∙ kept.0) in
    let its_rest : c.truncate-in-None.new.self.items ≡ rest = c.truncate-in-None.ensures.items ∙ (ap (take c.len-before.result) (kept.1 ∙ c.in_ok-extend_from_slice.ensures.items) ∙ take_at rest piece c.len-before.result size) in (
      rw (← before) stop,
      rw (its_text, its_rest, memory) c.self.view_is,
    )
