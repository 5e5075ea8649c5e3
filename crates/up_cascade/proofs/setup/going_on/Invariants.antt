use Rattle.std.proofs.Common.{◌≡◌, ◌++◌, drop}
use Rattle.up_book.specs.Keys.{Mode}
use Rattle.up_cascade.specs.Naming.{AreOthers, name_of}
use Rattle.up_job.specs.Named.{AreInOrder}
use Rattle.up_model.specs.Chronicle.{Chronicle}
use Rattle.up_model.specs.Configuration.{Configuration}
use Rattle.up_model.specs.Loads.{going_on}
use Rattle.up_cascade.proofs.setup.going_on.Given as goal

-- those so far, and those that are left, are the whole
abbrev pub invariant-loop-index : goal.invariant-loop-index
invariant-loop-index g l = record {
  whole : (mode : Mode) (config : Configuration) (c : Chronicle) → g.B.Book.stands l.book mode config c → l.old ≡ config.jobs
      → l.going.items ++ going_on l.new (drop l.index l.old) c ≡ going_on l.new l.old c;
  order : AreInOrder name_of (l.going.items ++ drop l.index l.old);
  others : AreOthers l.new l.going.items;
}
