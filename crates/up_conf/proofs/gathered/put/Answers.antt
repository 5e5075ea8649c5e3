use Rattle.std.proofs.Common.{◌≡◌, ◌∙◌, sym, Some, None}
use Rattle.std.specs.BTreeMap.{get_by}
use Rattle.std.specs.Cmp.Lexicographic.{slice_cmp}
use Rattle.std.specs.Ordering.{nat_cmp}
use Rattle.up_conf.proofs.Gathers.{put_there, put_last, stands_in}
use Rattle.up_conf.proofs.gathered.put.Goals as goal

pub replace-requires : goal.replace-requires
replace-requires c =
    let found : get_by (λ k. slice_cmp nat_cmp c.args.setting.now.key k.now) c.args.places.now ≡ Some c.in-Some.place = rw c.as_str-key.ensures at (sym c.in-Some.ensures) in
    (stands_in c.args.setting.now c.args.settings.now.items c.in-Some.place (sym (c.requires c.args.setting.now.key) ∙ found)).within

pub returns-in-Some-clause-put : goal.returns-in-Some-clause-put
returns-in-Some-clause-put c =
    let found : get_by (λ k. slice_cmp nat_cmp c.args.setting.now.key k.now) c.args.places.now ≡ Some c.in-Some.place = rw c.as_str-key.ensures at (sym c.in-Some.ensures) in
    (put_there c.args.setting.now c.args.settings.now.items c.replace.new.settings.items c.args.places.now c.in-Some.place c.requires found (rw c.in_ok-copied.ensures at c.replace.ensures)).0

pub returns-in-Some-clause-indexed : goal.returns-in-Some-clause-indexed
returns-in-Some-clause-indexed c =
    let found : get_by (λ k. slice_cmp nat_cmp c.args.setting.now.key k.now) c.args.places.now ≡ Some c.in-Some.place = rw c.as_str-key.ensures at (sym c.in-Some.ensures) in
    (put_there c.args.setting.now c.args.settings.now.items c.replace.new.settings.items c.args.places.now c.in-Some.place c.requires found (rw c.in_ok-copied.ensures at c.replace.ensures)).1

pub returns-in_ok-add-in-None-clause-put : goal.returns-in_ok-add-in-None-clause-put
returns-in_ok-add-in-None-clause-put c =
    let none : get_by (λ k. slice_cmp nat_cmp c.args.setting.now.key k.now) c.args.places.now ≡ None = rw c.as_str-key.ensures at (sym c.in-None.ensures) in
    (put_last c.args.setting.now c.args.settings.now.items c.add.new.settings.items c.args.places.now c.add.new.places c.requires none
    (rw c.in_ok-copied.ensures at c.in_ok-add-in-None.ensures.settings)
    (λ other. rw c.as_str-key.ensures at (c.in_ok-add-in-None.ensures.places other))).0

pub returns-in_ok-add-in-None-clause-indexed : goal.returns-in_ok-add-in-None-clause-indexed
returns-in_ok-add-in-None-clause-indexed c =
    let none : get_by (λ k. slice_cmp nat_cmp c.args.setting.now.key k.now) c.args.places.now ≡ None = rw c.as_str-key.ensures at (sym c.in-None.ensures) in
    (put_last c.args.setting.now c.args.settings.now.items c.add.new.settings.items c.args.places.now c.add.new.places c.requires none
    (rw c.in_ok-copied.ensures at c.in_ok-add-in-None.ensures.settings)
    (λ other. rw c.as_str-key.ensures at (c.in_ok-add-in-None.ensures.places other))).1
