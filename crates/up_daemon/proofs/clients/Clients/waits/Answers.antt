use Rattle.std.proofs.Common.{◌≡◌, ◌∙◌, sym, rules}
use Rattle.std.specs.List.{list_any}
use Rattle.up_daemon.specs.Peers.{peer_of, waits}
use Rattle.up_daemon.proofs.Waits.{list_any-map}
use Rattle.up_daemon.proofs.clients.Clients.waits.Goals as goal

pub returns : goal.returns
returns c =
    let found : c.one_waits.result ≡ list_any (λ client. waits c.args.number (peer_of client)) c.args.self.now.list.items = search rules in
    found ∙ sym (list_any-map (waits c.args.number) peer_of c.args.self.now.list.items)
