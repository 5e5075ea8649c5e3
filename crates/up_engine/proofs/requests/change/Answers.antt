use Rattle.std.proofs.Common.{◌≡◌, ◌∷◌, ◌++◌, ◌∙◌, length, sym, ap, subst}
use Rattle.up_book.specs.Keys.{Stepping}
use Rattle.up_engine.specs.Requests.{target_of as said_of}
use Rattle.up_engine.proofs.Asked.{answered-due, emitted-idle, status-told, told-entries}
use Rattle.up_model.specs.Chronicle.{Chronicle, Given, Replied}
use Rattle.up_model.specs.Commands.{entries_of, known_target, outcome_of, reload, status}
use Rattle.up_model.specs.declared.request.Command.TheVariants as command
use Rattle.up_model.specs.declared.request.Command.{Command}
use Rattle.up_model.specs.Requests.{RequestValue}
use Rattle.up_engine.proofs.requests.change.Goals as goal

-- the command of a request that was taken apart
asks : {parts request : RequestValue} {its : Command} → parts ≡ request → parts.command ≡ its → request.command ≡ its
asks same is = sym (ap (λ (r : RequestValue). r.command) same) ∙ is

pub returns-in-Emit-clause-concerns : goal.returns-in-Emit-clause-concerns
returns-in-Emit-clause-concerns g c c' id s =
    emitted-idle c.args.setup.now id c.args.request c' (asks c.request.view_is c.in-Emit.is)

pub returns-in-Status-clause-concerns : goal.returns-in-Status-clause-concerns
returns-in-Status-clause-concerns g c c' id s none =
    answered-due command.Status c.args.setup.now id c.args.request c' (asks c.request.view_is c.in-Status.is) tt none

pub returns-in-List-clause-concerns : goal.returns-in-List-clause-concerns
returns-in-List-clause-concerns g c c' id s none =
    answered-due command.List c.args.setup.now id c.args.request c' (asks c.request.view_is c.in-List.is) tt none

pub returns-in-Version-clause-concerns : goal.returns-in-Version-clause-concerns
returns-in-Version-clause-concerns g c c' id s none =
    answered-due command.Version c.args.setup.now id c.args.request c' (asks c.request.view_is c.in-Version.is) tt none

pub returns-in-Reload-clause-concerns : goal.returns-in-Reload-clause-concerns
returns-in-Reload-clause-concerns g c c' id s none =
    answered-due command.Reload c.args.setup.now id c.args.request c' (asks c.request.view_is c.in-Reload.is) tt none

pub returns-clause-concerns : goal.returns-clause-concerns
returns-clause-concerns g c c' id s none =
    answered-due command.ReloadConfiguration c.args.setup.now id c.args.request c' (asks c.request.view_is c.in-ReloadConfiguration.is) tt none

pub returns-in-Reload-clause-after : goal.returns-in-Reload-clause-after
returns-in-Reload-clause-after g c c' given s asked =
    let config = c.args.setup.now in
    let d : Chronicle = Given given ∷ c' in
    let target : said_of c.in_ok-target-in-Reload.target ≡ known_target config c.request.inside.name c.request.inside.vars d =
    subst (λ n. said_of c.in_ok-target-in-Reload.target ≡ known_target config n c.request.inside.vars d) c.as_str-in-Reload.ensures (c.in_ok-target-in-Reload.ensures.target Stepping d s) in
    let done = c.in_ok-reload-in-Reload.ensures config c.in_ok-target-in-Reload.ensures.index c' given s in
    let told = subst (λ t. g.B.Book.stands c.reload.new.book Stepping config (entries_of (length c') (reload (length c') t d) ++ d)) target done in
    subst (λ r. g.B.Book.stands c.reload.new.book Stepping config (entries_of (length c') (outcome_of config (length c') r d) ++ d)) c.request.view_is
    (rw c.in-Reload.is told)

pub returns-in-Status-clause-after : goal.returns-in-Status-clause-after
returns-in-Status-clause-after g c c' given s asked =
    let config = c.args.setup.now in
    let d : Chronicle = Given given ∷ c' in
    let target : said_of c.in_ok-target-in-Status.target ≡ known_target config c.request.inside.name c.request.inside.vars d =
    subst (λ n. said_of c.in_ok-target-in-Status.target ≡ known_target config n c.request.inside.vars d) c.as_str-in-Status.ensures (c.in_ok-target-in-Status.ensures.target Stepping d s) in
    let answer = c.in_ok-answer-in-Status.ensures Stepping config d s c.in_ok-target-in-Status.ensures.index in
    let told = subst (λ a. g.B.Book.stands c.reply.new.self Stepping config (Replied (length c') a ∷ d)) answer (c.in_ok-reply-in-Status.ensures config d s) in
    let whose = said_of c.in_ok-target-in-Status.target in
    let entries = told-entries (length c') (status whose d) (status-told whose d) in
    let whole = subst (λ es. g.B.Book.stands c.reply.new.self Stepping config (es ++ d)) (sym entries) told in
    let named = subst (λ t. g.B.Book.stands c.reply.new.self Stepping config (entries_of (length c') (status t d) ++ d)) target whole in
    subst (λ r. g.B.Book.stands c.reply.new.self Stepping config (entries_of (length c') (outcome_of config (length c') r d) ++ d)) c.request.view_is
    (rw c.in-Status.is named)
