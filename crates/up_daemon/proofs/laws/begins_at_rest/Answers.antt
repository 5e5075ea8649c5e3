use Rattle.std.proofs.Common.{◌≡◌, ℕ, Bool, false, [], List, subst, sym, ap, if◌then◌else◌}
use Rattle.up_daemon.specs.Connected.{AreConnected}
use Rattle.up_daemon.specs.Exchanges.{IsNumbered}
use Rattle.up_daemon.specs.Peers.{Peer, numbers_of}
use Rattle.up_daemon.specs.RoundStates.{DaemonState}
use Rattle.up_daemon.specs.Wholeness.{AreWhole}
use Rattle.up_daemon.proofs.laws.begins_at_rest.Goals as goal

none : (connected : ℕ → Bool) → ((number : ℕ) → connected number ≡ false) → AreConnected connected []
none connected nobody = λ number. ap (λ (b : Bool). if b then 1 else 0) (sym (nobody number))

pub returns : goal.returns
returns c = λ state empty nobody. record {
  connected = subst (λ (peers : List Peer). AreConnected state.connected (numbers_of peers)) (sym empty) (none state.connected nobody);
  numbered = subst (λ (peers : List Peer). IsNumbered peers state.next) (sym empty) (record { apart = tt; below = tt });
  whole = subst AreWhole (sym empty) tt;
}
