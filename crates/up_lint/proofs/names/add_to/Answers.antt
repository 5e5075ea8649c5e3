use Rattle.std.proofs.Common.{◌≡◌, ◌∙◌, sym, ap, false, not}
use Rattle.std.specs.List.{list_any}
use Rattle.std.specs.Str.{bytes_eq}
use Rattle.up_conf.proofs.Gathers.{added_new}
use Rattle.up_lint.specs.Names.{texts}
use Rattle.up_lint.proofs.names.add_to.Goals as goal

pub returns-clause-seen : goal.returns-clause-seen
returns-clause-seen c = λ key.
    let name = c.args.name.now in
    let names = texts c.args.list.now.items in
    let gone : list_any (bytes_eq name) names ≡ false = sym (c.requires name) ∙ sym c.contains.ensures ∙ c.if-contains.false in
    c.in_ok-append.ensures.seen names c.requires key ∙ ap (list_any (bytes_eq key)) (added_new names name (ap not gone) ∙ sym c.in_ok-append.ensures.list)
