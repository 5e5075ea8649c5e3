-- What is known of an instance by what is kept of it.
use Rattle.std.specs.Prelude.{◌≡◌, ℕ, map, option_map}
use Rattle.up_model.specs.Chronicle.{Chronicle}
use Rattle.up_model.specs.Clock.{kill_moment}
use Rattle.up_model.specs.Readings.{goal, state_of, was_restarted, pending_env, env, stop_env, failure, holders, blocker}
use Rattle.up_job.specs.declared.instance.Instance.{Instance as Kept}
use Rattle.up_book.specs.Summaries.{known, holding_at, works_at}
use Rattle.up_book.specs.Views.{Places, bindings_of, pending_of, holding_of}

pub record Knows (places : Places) (c : Chronicle) (i : ℕ) (kept : Kept) : Type 0 where
  pub goal : kept.goal ≡ goal i c
  pub state : kept.state ≡ state_of i c
  pub restarted : kept.restarted ≡ was_restarted i c
  pub pending : pending_of kept.pending kept.env ≡ pending_env i c
  pub env : bindings_of kept.env ≡ env i c
  pub stop_env : bindings_of kept.stop_env ≡ stop_env i c
  pub failure : kept.failure ≡ failure i c
  pub holders : map (holding_of places) kept.holders ≡ map (holding_at c) (holders i c)
  pub blocker : option_map places kept.blocker ≡ known (blocker i c)
  pub children : kept.children ≡ works_at i c
  pub kill_moment : kept.kill_moment ≡ kill_moment i c
