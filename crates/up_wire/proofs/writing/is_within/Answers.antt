use Rattle.std.proofs.Common.{◌∙◌, ◌+◌, ap, nat_le, length}
use Rattle.std.specs.List.{flat_map}
use Rattle.up_wire.specs.Frames.{payload_of, max_payload, variable}
use Rattle.up_wire.proofs.Sizes.{within_payload}
use Rattle.up_wire.proofs.writing.is_within.Goals as goal

pub returns : goal.returns
returns c =
    let its = c.request.inside in
    c.are_parts_within.ensures
    ∙ (ap (λ name. nat_le (6 + length name + length (flat_map variable its.vars)) max_payload) c.as_str.ensures
    ∙ (within_payload (record { command = its.command; wait = its.wait; name = its.name; vars = its.vars })
    ∙ ap (λ request. nat_le (length (payload_of request)) max_payload) c.request.view_is))
