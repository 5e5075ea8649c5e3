-- What the stanza at a place says is what the grammar writes there.
-- A kind more owes a line to `kind_of-word` and to `listed_stands`, and a stanza more one to `stanza_at-StandsAt`.
use Rattle.std.proofs.Common.{◌≡◌, inl, inr, ℕ, ◌+◌, Bool, true, false, List, [], ◌∷◌, length, map, Option, None, Some, cond, refl, sym, ◌∙◌, ap, subst, option_map, option_and_then, codes}
use Rattle.std.proofs.lemmas.Slice.Eq.{bytes_eq-Decides}
use Rattle.std.specs.List.{find, concat}
use Rattle.std.specs.Str.{bytes_eq}
use Rattle.up_value.specs.declared.fault.TextFault.{TextFault}
use Rattle.up_text.specs.declared.token.Token.{Token}
use Rattle.up_text.specs.Commands.{command_marks_at, command_in}
use Rattle.up_text.specs.Expansion.{is_expandable}
use Rattle.up_text.specs.Places.{Place, Reading, Got, Ended, Fails, reading, with_parens, place_after, after_stanza, fault_in}
use Rattle.up_text.specs.Statements.{statement_of}
use Rattle.up_text.specs.Scripts.{is_filled, lines_of, script_in}
use Rattle.up_text.proofs.Statements.{statement_of-IsStatement, IsStatement-statement_of}
use Rattle.up_expr.specs.Trees.{Tree}
use Rattle.up_stanza.specs.declared.action.Action.{Action}
use Rattle.up_stanza.specs.declared.action.Action.TheVariants.{Shell}
use Rattle.up_stanza.specs.declared.kind.Kind.{Kind}
use Rattle.up_stanza.specs.declared.kind.Kind.TheVariants as kind
use Rattle.up_stanza.specs.declared.kind.Listed as lists
use Rattle.up_stanza.specs.declared.kind.Listed.TheVariants as listed
use Rattle.up_stanza.specs.declared.process.Process as processes
use Rattle.up_stanza.specs.declared.process.Process.TheVariants as process
use Rattle.up_stanza.specs.declared.stanza.Stanza.{Stanza}
use Rattle.up_stanza.specs.declared.stanza.Stanza.TheVariants.{About, Emits, Env, Export, Task, Manual, Respawn, RespawnLimit, NormalExit, KillTimeout, KillSignal, ReloadSignal, Instance, Console, Chdir, Runs, StartOn, StopOn}
use Rattle.up_stanza.specs.Actions.{action_of}
use Rattle.up_stanza.specs.Arguments.{single, each, one_or_more, some, after, limit_of, respawn_of, kill_of, listed_of}
use Rattle.up_stanza.specs.Grammar.{Says, IsListed, IsOn, IsExec, IsScript, IsAction, IsAbout, IsDescription, IsAuthor, IsVersion, IsUsage, StandsAt}
use Rattle.up_stanza.specs.Kinds.{listed_word, word_of, kinds, kind_of}
use Rattle.up_stanza.specs.Numbers.{number_in}
use Rattle.up_stanza.specs.Settings.{key_in, setting_in, exit_in, expandable_in, console_in}
use Rattle.up_stanza.specs.Signals.{signal_in}
use Rattle.up_stanza.specs.Stanzas.{Found, map_found, and_then_found, without_parens, expression_in, expression_by, texts_at, with_end, command_by, command_at, script_of, script_by, script_at, action_by, action_at, stanza_as, stanza_of, stanza_by, stanza_at}
use Rattle.up_stanza.proofs.Backward.{mapped, chosen, single-is, none-is, one_or_more-is, one_or_more-from, after-is, each-is, each-from, keys-is, keys-from}
use Rattle.up_stanza.proofs.Parsing.{expression_in-Writes, Writes-expression_in}

-- the words of kinds

kind-word : (word : List ℕ) (ks : List Kind) (k : Kind) → find (λ kind. bytes_eq word (word_of kind)) ks ≡ Some k → word ≡ word_of k
kind-word word [] k is = absurd (cc)
kind-word word (first ∷ ks) k is = by_first (bytes_eq word (word_of first)) refl (λ is. kind-word word ks k is) is
  where
    by_first : (same : Bool) → bytes_eq word (word_of first) ≡ same → (find (λ kind. bytes_eq word (word_of kind)) ks ≡ Some k → word ≡ word_of k)
        → cond same (Some first) (find (λ kind. bytes_eq word (word_of kind)) ks) ≡ Some k → word ≡ word_of k
    by_first true e more is = let one : first ≡ k = cc in (bytes_eq-Decides word (word_of first)).0 e ∙ ap word_of one
    by_first false e more is = more is

kind_of-is : (word : List ℕ) (k : Kind) → kind_of word ≡ Some k → word ≡ word_of k
unfolding kind_of
kind_of-is word k is = kind-word word kinds k is

kind_of-word : (k : Kind) → kind_of (word_of k) ≡ Some k
unfolding kind_of
kind_of-word (kind.Listed listed.Description) = refl
kind_of-word (kind.Listed listed.Author) = refl
kind_of-word (kind.Listed listed.Version) = refl
kind_of-word (kind.Listed listed.Usage) = refl
kind_of-word (kind.Listed listed.Emits) = refl
kind_of-word (kind.Listed listed.Env) = refl
kind_of-word (kind.Listed listed.Export) = refl
kind_of-word (kind.Listed listed.Task) = refl
kind_of-word (kind.Listed listed.Manual) = refl
kind_of-word (kind.Listed listed.Respawn) = refl
kind_of-word (kind.Listed listed.Normal) = refl
kind_of-word (kind.Listed listed.Kill) = refl
kind_of-word (kind.Listed listed.Reload) = refl
kind_of-word (kind.Listed listed.Instance) = refl
kind_of-word (kind.Listed listed.Console) = refl
kind_of-word (kind.Listed listed.Chdir) = refl
kind_of-word kind.Exec = refl
kind_of-word kind.Script = refl
kind_of-word kind.PreStart = refl
kind_of-word kind.PostStart = refl
kind_of-word kind.PreStop = refl
kind_of-word kind.PostStop = refl
kind_of-word kind.Start = refl
kind_of-word kind.Stop = refl

-- what a part was made of

record Made {X Y : Type 0} (f : X → Y) (found : Found X) (y : Y) (after : Place) : Type 0 where
  x : X
  is : found ≡ Some (x, after)
  gives : f x ≡ y

made_of : {X Y : Type 0} (f : X → Y) (found : Found X) (y : Y) (after : Place) → map_found f found ≡ Some (y, after) → Made f found y after
made_of f None y after is = cc
made_of {X} {Y} f (Some found) y after is =
    let pair : (f found.0, found.1) ≡ (y, after) = cc in
    let value = ap (λ (p : Y × Place). p.0) pair in
    let same = ap (λ (p : Y × Place). p.1) pair in
    record { x = found.0; is = ap (λ b. Some (found.0, b)) same; gives = value }

found_of : {X Y : Type 0} (f : X → Option Y) (found : Found X) (y : Y) (after : Place) → and_then_found f found ≡ Some (y, after) → Made f found (Some y) after
found_of f None y after is = cc
found_of {X} {Y} f (Some found) y after is = by_value (f found.0) refl is
  where
    by_value : (value : Option Y) → f found.0 ≡ value → option_map {U = Y × Place} (λ x. (x, found.1)) value ≡ Some (y, after) → Made f (Some found) (Some y) after
    by_value None e is = cc
    by_value (Some x) e is =
        let pair : (x, found.1) ≡ (y, after) = cc in
        let value = ap (λ (p : Y × Place). p.0) pair in
        let same = ap (λ (p : Y × Place). p.1) pair in
        record { x = found.0; is = ap (λ b. Some (found.0, b)) same; gives = e ∙ ap Some value }

-- the place before the switch was turned back

record Switched {X : Type 0} (found : Found X) (x : X) (after : Place) : Type 0 where
  end : Place
  is : found ≡ Some (x, end)
  back : after ≡ with_parens false end

switched_of : {X : Type 0} (found : Found X) (x : X) (after : Place) → without_parens found ≡ Some (x, after) → Switched found x after
switched_of None x after is = cc
switched_of {X} (Some found) x after is =
    let pair : (found.0, with_parens false found.1) ≡ (x, after) = cc in
    let value = ap (λ (p : X × Place). p.0) pair in
    let same = ap (λ (p : X × Place). p.1) pair in
    record { end = found.1; is = ap (λ v. Some (v, found.1)) value; back = sym same }

-- the expression after `on`

IsOn-by : (word : List ℕ) (place next : Place) (tree : Tree) (after : Place) → Says place word next → expression_by (reading next) ≡ Some (tree, after) → IsOn word tree place after
IsOn-by word place next tree after first is = by_reading (reading next) refl is
  where
    by_on : (token : Token) (later : Place) (on : Bool) → reading next ≡ Got token later → bytes_eq token.text (codes "on") ≡ on
        → cond on (without_parens (and_then_found expression_in (statement_of (with_parens true later)))) None ≡ Some (tree, after) → IsOn word tree place after
    by_on token later false got on is = cc
    by_on token later true got on is =
        let turned = switched_of (and_then_found expression_in (statement_of (with_parens true later))) tree after is in
        let parsed = found_of expression_in (statement_of (with_parens true later)) tree turned.end turned.is in
        record {
          next = next;
          first = first;
          later = later;
          second = record { token = token; read = got; same = (bytes_eq-Decides token.text (codes "on")).0 on };
          tokens = parsed.x;
          end = turned.end;
          statement = IsStatement-statement_of (with_parens true later) parsed.x turned.end parsed.is;
          writes = Writes-expression_in parsed.x tree parsed.gives;
          is_after = turned.back;
        }

    by_reading : (r : Reading) → reading next ≡ r → expression_by r ≡ Some (tree, after) → IsOn word tree place after
    by_reading (Got token later) got is = by_on token later (bytes_eq token.text (codes "on")) got refl is
    by_reading (Ended later) got is = cc
    by_reading (Fails fault) got is = cc

expression_by-On : (word : List ℕ) (place : Place) (tree : Tree) (after : Place) (is : IsOn word tree place after) → expression_by (reading is.next) ≡ Some (tree, after)
expression_by-On word place tree after is =
    let on : bytes_eq is.second.token.text (codes "on") ≡ true = (bytes_eq-Decides is.second.token.text (codes "on")).1 is.second.same in
    rw (is.second.read, on, statement_of-IsStatement (with_parens true is.later) is.tokens is.end is.statement, expression_in-Writes is.tokens tree is.writes, is.is_after) refl

-- commands and scripts

with_end-is : {X : Type 0} (part : Option X) (r : Reading) (x : X) (after : Place) → with_end part r ≡ Some (x, after) → (part ≡ Some x) × (r ≡ Ended after)
with_end-is None r x after is = absurd (cc)
with_end-is (Some y) (Got token end) x after is = absurd (cc)
with_end-is (Some y) (Fails fault) x after is = absurd (cc)
with_end-is {X} (Some y) (Ended end) x after is =
    let pair : (y, end) ≡ (x, after) = cc in
    (ap (λ (p : X × Place). Some p.0) pair, ap (λ (p : X × Place). Ended p.1) pair)

IsExec-by : (place next : Place) (action : Action) (after : Place) → Says place (codes "exec") next → command_at next ≡ Some (action, after) → IsExec action place after
IsExec-by place next action after first is = by_fault (fault_in (command_marks_at next)) refl is
  where
    by_fault : (fault : Option TextFault) → fault_in (command_marks_at next) ≡ fault → command_by next fault ≡ Some (action, after) → IsExec action place after
    by_fault (Some fault) e is = absurd (cc)
    by_fault None e is =
        let both = with_end-is (action_of (command_in (command_marks_at next))) (reading (place_after (length (command_marks_at next)) next)) action after is in
        record { next = next; first = first; whole = e; says = both.0; ends = both.1 }

command_at-Exec : (place : Place) (action : Action) (after : Place) (is : IsExec action place after) → command_at is.next ≡ Some (action, after)
command_at-Exec place action after is = rw (is.whole, is.says, is.ends) refl

IsScript-by : (place next : Place) (action : Action) (after : Place) → Says place (codes "script") next → script_at next ≡ Some (action, after) → IsScript action place after
IsScript-by place next action after first is = by_reading (reading next) refl is
  where
    by_script : (later : Place) (script : Option (List (List ℕ) × List ℕ)) → reading next ≡ Ended later → script_in (lines_of later.rest) ≡ script → script_of later script ≡ Some (action, after) → IsScript action place after
    by_script later None ends e is = absurd (cc)
    by_script later (Some script) ends e is =
        let pair : (Shell (concat script.0), after_stanza (place_after (length (concat script.0) + length script.1) later)) ≡ (action, after) = cc in
        record {
          next = next;
          first = first;
          later = later;
          ends = ends;
          lines = script.0;
          last = script.1;
          script = e;
          says = sym (ap (λ (p : Action × Place). p.0) pair);
          is_after = sym (ap (λ (p : Action × Place). p.1) pair);
        }

    by_reading : (r : Reading) → reading next ≡ r → script_by r ≡ Some (action, after) → IsScript action place after
    by_reading (Got token later) ends is = absurd (cc)
    by_reading (Ended later) ends is = by_script later (script_in (lines_of later.rest)) ends refl is
    by_reading (Fails fault) ends is = absurd (cc)

script_at-Script : (place : Place) (action : Action) (after : Place) (is : IsScript action place after) → script_at is.next ≡ Some (action, after)
script_at-Script place action after is = rw (is.ends, is.script, is.says, is.is_after) refl

IsAction-by : (place : Place) (action : Action) (after : Place) → action_at place ≡ Some (action, after) → IsAction action place after
IsAction-by place action after is = by_reading (reading place) refl is
  where
    by_word : (token : Token) (next : Place) (exec script : Bool) → reading place ≡ Got token next → bytes_eq token.text (codes "exec") ≡ exec → bytes_eq token.text (codes "script") ≡ script
        → cond exec (command_at next) (cond script (script_at next) None) ≡ Some (action, after) → IsAction action place after
    by_word token next true script got e f is = inl (IsExec-by place next action after (record { token = token; read = got; same = (bytes_eq-Decides token.text (codes "exec")).0 e }) is)
    by_word token next false true got e f is = inr (IsScript-by place next action after (record { token = token; read = got; same = (bytes_eq-Decides token.text (codes "script")).0 f }) is)
    by_word token next false false got e f is = absurd (cc)

    by_reading : (r : Reading) → reading place ≡ r → action_by r ≡ Some (action, after) → IsAction action place after
    by_reading (Got token next) got is = by_word token next (bytes_eq token.text (codes "exec")) (bytes_eq token.text (codes "script")) got refl refl is
    by_reading (Ended next) got is = absurd (cc)
    by_reading (Fails fault) got is = absurd (cc)

action_at-Action : (place : Place) (action : Action) (after : Place) → IsAction action place after → action_at place ≡ Some (action, after)
action_at-Action place action after (inl is) = rw (is.first.read, is.first.same, command_at-Exec place action after is) refl
action_at-Action place action after (inr is) = rw (is.first.read, is.first.same, script_at-Script place action after is) refl

-- stanzas of arguments

IsListed-by : (word : List ℕ) (place next : Place) (texts : List (List ℕ)) (after : Place) → Says place word next → texts_at next ≡ Some (texts, after) → IsListed word texts place after
IsListed-by word place next texts after first is =
    let statement = made_of (λ (tokens : List Token). map (λ t. t.text) tokens) (statement_of next) texts after is in
    record { next = next; first = first; tokens = statement.x; statement = IsStatement-statement_of next statement.x after statement.is; texts = sym statement.gives }

about_stands : (place after : Place) (word : List ℕ) → IsAbout word → (texts : List (List ℕ)) (stanza : Stanza) → option_map About (single texts) ≡ Some stanza → IsListed word texts place after → StandsAt place stanza after
about_stands place after word about texts stanza is l =
    let m = mapped About (single texts) stanza is in
    subst (λ s. StandsAt place s after) m.gives (word, about, subst (λ ts. IsListed word ts place after) (single-is texts m.x m.is) l)

respawn_stands : (place end : Place) (texts : List (List ℕ)) (stanza : Stanza) → respawn_of texts ≡ Some stanza → IsListed (codes "respawn") texts place end → StandsAt place stanza end
respawn_stands place end [] stanza is l = let same : Respawn ≡ stanza = cc in subst (λ s. StandsAt place s end) same l
respawn_stands place end (text ∷ texts) stanza is l =
    let m = mapped RespawnLimit (option_and_then limit_of (after (codes "limit") (text ∷ texts))) stanza is in
    let c = chosen limit_of (after (codes "limit") (text ∷ texts)) m.x m.is in
    subst (λ s. StandsAt place s end) m.gives (c.x, c.gives, subst (λ ts. IsListed (codes "respawn") ts place end) (after-is (codes "limit") (text ∷ texts) c.x c.is) l)

kill_stands : (place end : Place) (texts : List (List ℕ)) (stanza : Stanza) → kill_of texts ≡ Some stanza → IsListed (codes "kill") texts place end → StandsAt place stanza end
kill_stands place end [] stanza is l = absurd (cc)
kill_stands place end (text ∷ texts) stanza is l = by_word (bytes_eq text (codes "timeout")) (bytes_eq text (codes "signal")) refl refl is
  where
    arguments : (word second : List ℕ) → bytes_eq text word ≡ true → texts ≡ second ∷ [] → IsListed (codes "kill") (word ∷ second ∷ []) place end
    arguments word second e same = subst (λ ts. IsListed (codes "kill") ts place end) (ap (λ t. t ∷ texts) ((bytes_eq-Decides text word).0 e) ∙ ap (λ ts. word ∷ ts) same) l

    by_word : (timeout signal : Bool) → bytes_eq text (codes "timeout") ≡ timeout → bytes_eq text (codes "signal") ≡ signal
        → cond timeout (option_map KillTimeout (option_and_then (number_in 0 2147483647) (single texts))) (cond signal (option_map KillSignal (option_and_then signal_in (single texts))) None) ≡ Some stanza → StandsAt place stanza end
    by_word true signal e f is =
        let m = mapped KillTimeout (option_and_then (number_in 0 2147483647) (single texts)) stanza is in
        let c = chosen (number_in 0 2147483647) (single texts) m.x m.is in
        subst (λ s. StandsAt place s end) m.gives (c.x, c.gives, arguments (codes "timeout") c.x e (single-is texts c.x c.is))
    by_word false true e f is =
        let m = mapped KillSignal (option_and_then signal_in (single texts)) stanza is in
        let c = chosen signal_in (single texts) m.x m.is in
        subst (λ s. StandsAt place s end) m.gives (c.x, c.gives, arguments (codes "signal") c.x f (single-is texts c.x c.is))
    by_word false false e f is = absurd (cc)

listed_stands : (place end : Place) (kind : lists.Listed) (texts : List (List ℕ)) (stanza : Stanza) → listed_of kind texts ≡ Some stanza → IsListed (listed_word kind) texts place end → StandsAt place stanza end
listed_stands place end listed.Description texts stanza is l = about_stands place end (codes "description") IsDescription texts stanza is l
listed_stands place end listed.Author texts stanza is l = about_stands place end (codes "author") IsAuthor texts stanza is l
listed_stands place end listed.Version texts stanza is l = about_stands place end (codes "version") IsVersion texts stanza is l
listed_stands place end listed.Usage texts stanza is l = about_stands place end (codes "usage") IsUsage texts stanza is l
listed_stands place end listed.Emits texts stanza is l =
    let m = mapped Emits (one_or_more texts) stanza is in
    let f = one_or_more-is texts m.x m.is in
    subst (λ s. StandsAt place s end) m.gives (f.1, subst (λ ts. IsListed (codes "emits") ts place end) f.0 l)
listed_stands place end listed.Env texts stanza is l =
    let m = mapped Env (option_and_then setting_in (single texts)) stanza is in
    let c = chosen setting_in (single texts) m.x m.is in
    subst (λ s. StandsAt place s end) m.gives (c.x, c.gives, subst (λ ts. IsListed (codes "env") ts place end) (single-is texts c.x c.is) l)
listed_stands place end listed.Export texts stanza is l =
    let m = mapped Export (some key_in texts) stanza is in
    let c = chosen (each key_in) (one_or_more texts) m.x m.is in
    let f = one_or_more-is texts c.x c.is in
    let k = keys-is c.x m.x c.gives in
    let filled_keys = subst (λ ts. is_filled ts ≡ true) k.0 f.1 in
    subst (λ s. StandsAt place s end) m.gives (filled_keys, k.1, subst (λ ts. IsListed (codes "export") ts place end) (f.0 ∙ k.0) l)
listed_stands place end listed.Task texts stanza is l =
    let n = none-is Task stanza texts is in
    subst (λ s. StandsAt place s end) n.1 (subst (λ ts. IsListed (codes "task") ts place end) n.0 l)
listed_stands place end listed.Manual texts stanza is l =
    let n = none-is Manual stanza texts is in
    subst (λ s. StandsAt place s end) n.1 (subst (λ ts. IsListed (codes "manual") ts place end) n.0 l)
listed_stands place end listed.Respawn texts stanza is l = respawn_stands place end texts stanza is l
listed_stands place end listed.Normal texts stanza is l =
    let m = mapped NormalExit (option_and_then (some exit_in) (after (codes "exit") texts)) stanza is in
    let c = chosen (some exit_in) (after (codes "exit") texts) m.x m.is in
    let e = chosen (each exit_in) (one_or_more c.x) m.x c.gives in
    let f = one_or_more-is c.x e.x e.is in
    subst (λ s. StandsAt place s end) m.gives
    (e.x, f.1, each-is exit_in e.x m.x e.gives, subst (λ ts. IsListed (codes "normal") ts place end) (after-is (codes "exit") texts c.x c.is ∙ ap (λ ts. codes "exit" ∷ ts) f.0) l)
listed_stands place end listed.Kill texts stanza is l = kill_stands place end texts stanza is l
listed_stands place end listed.Reload texts stanza is l =
    let m = mapped ReloadSignal (option_and_then (λ others. option_and_then signal_in (single others)) (after (codes "signal") texts)) stanza is in
    let c = chosen (λ others. option_and_then signal_in (single others)) (after (codes "signal") texts) m.x m.is in
    let e = chosen signal_in (single c.x) m.x c.gives in
    subst (λ s. StandsAt place s end) m.gives
    (e.x, e.gives, subst (λ ts. IsListed (codes "reload") ts place end) (after-is (codes "signal") texts c.x c.is ∙ ap (λ ts. codes "signal" ∷ ts) (single-is c.x e.x e.is)) l)
listed_stands place end listed.Instance texts stanza is l =
    let m = mapped Instance (option_and_then expandable_in (single texts)) stanza is in
    let c = chosen expandable_in (single texts) m.x m.is in
    subst (λ s. StandsAt place s end) m.gives (by_good (is_expandable c.x) c.x m.x refl c.gives (subst (λ ts. IsListed (codes "instance") ts place end) (single-is texts c.x c.is) l))
  where
    by_good : (good : Bool) (text name : List ℕ) → is_expandable text ≡ good → cond good (Some text) None ≡ Some name → IsListed (codes "instance") (text ∷ []) place end → StandsAt place (Instance name) end
    by_good false text name e is l = absurd (cc)
    by_good true text name e is l = let same : text ≡ name = cc in subst (λ n. StandsAt place (Instance n) end) same (e, l)
listed_stands place end listed.Console texts stanza is l =
    let m = mapped Console (option_and_then console_in (single texts)) stanza is in
    let c = chosen console_in (single texts) m.x m.is in
    subst (λ s. StandsAt place s end) m.gives (c.x, c.gives, subst (λ ts. IsListed (codes "console") ts place end) (single-is texts c.x c.is) l)
listed_stands place end listed.Chdir texts stanza is l =
    let m = mapped Chdir (single texts) stanza is in
    subst (λ s. StandsAt place s end) m.gives (subst (λ ts. IsListed (codes "chdir") ts place end) (single-is texts m.x m.is) l)

-- what is read stands there

kind_stands : (kind : Kind) (place next : Place) (stanza : Stanza) (end : Place) → Says place (word_of kind) next → stanza_as kind next ≡ Some (stanza, end) → StandsAt place stanza end
kind_stands (kind.Listed kind) place next stanza end first is =
    let read = found_of (listed_of kind) (texts_at next) stanza end is in
    listed_stands place end kind read.x stanza read.gives (IsListed-by (listed_word kind) place next read.x end first read.is)
kind_stands kind.Exec place next stanza end first is =
    let m = made_of (Runs process.Main) (command_at next) stanza end is in
    subst (λ s. StandsAt place s end) m.gives (inl (IsExec-by place next m.x end first m.is))
kind_stands kind.Script place next stanza end first is =
    let m = made_of (Runs process.Main) (script_at next) stanza end is in
    subst (λ s. StandsAt place s end) m.gives (inr (IsScript-by place next m.x end first m.is))
kind_stands kind.PreStart place next stanza end first is =
    let m = made_of (Runs process.PreStart) (action_at next) stanza end is in
    subst (λ s. StandsAt place s end) m.gives (next, first, IsAction-by next m.x end m.is)
kind_stands kind.PostStart place next stanza end first is =
    let m = made_of (Runs process.PostStart) (action_at next) stanza end is in
    subst (λ s. StandsAt place s end) m.gives (next, first, IsAction-by next m.x end m.is)
kind_stands kind.PreStop place next stanza end first is =
    let m = made_of (Runs process.PreStop) (action_at next) stanza end is in
    subst (λ s. StandsAt place s end) m.gives (next, first, IsAction-by next m.x end m.is)
kind_stands kind.PostStop place next stanza end first is =
    let m = made_of (Runs process.PostStop) (action_at next) stanza end is in
    subst (λ s. StandsAt place s end) m.gives (next, first, IsAction-by next m.x end m.is)
kind_stands kind.Start place next stanza end first is =
    let m = made_of StartOn (expression_by (reading next)) stanza end is in
    subst (λ s. StandsAt place s end) m.gives (IsOn-by (codes "start") place next m.x end first m.is)
kind_stands kind.Stop place next stanza end first is =
    let m = made_of StopOn (expression_by (reading next)) stanza end is in
    subst (λ s. StandsAt place s end) m.gives (IsOn-by (codes "stop") place next m.x end first m.is)

pub StandsAt-stanza_at : (place : Place) (stanza : Stanza) (end : Place) → stanza_at place ≡ Some (stanza, end) → StandsAt place stanza end
StandsAt-stanza_at place stanza end is = by_reading (reading place) refl is
  where
    by_kind : (kind : Option Kind) (token : Token) (next : Place) → reading place ≡ Got token next → kind_of token.text ≡ kind → stanza_of kind next ≡ Some (stanza, end) → StandsAt place stanza end
    by_kind None token next got e is = absurd (cc)
    by_kind (Some kind) token next got e is = kind_stands kind place next stanza end (record { token = token; read = got; same = kind_of-is token.text kind e }) is

    by_reading : (r : Reading) → reading place ≡ r → stanza_by r ≡ Some (stanza, end) → StandsAt place stanza end
    by_reading (Got token next) got is = by_kind (kind_of token.text) token next got refl is
    by_reading (Ended next) got is = absurd (cc)
    by_reading (Fails fault) got is = absurd (cc)

-- and what stands there is read

readable-from : (kind : Kind) (place next : Place) (stanza : Stanza) (end : Place) → Says place (word_of kind) next → stanza_as kind next ≡ Some (stanza, end) → stanza_at place ≡ Some (stanza, end)
readable-from kind place next stanza end first is = rw (first.read, first.same, kind_of-word kind) is

listed-from : (which : lists.Listed) (place : Place) (texts : List (List ℕ)) (stanza : Stanza) (end : Place) → IsListed (listed_word which) texts place end → listed_of which texts ≡ Some stanza → stanza_at place ≡ Some (stanza, end)
listed-from which place texts stanza end l is =
    let read : and_then_found (listed_of which) (texts_at l.next) ≡ Some (stanza, end) = rw (statement_of-IsStatement l.next l.tokens end l.statement, ← l.texts, is) refl in
    readable-from (kind.Listed which) place l.next stanza end l.first read

about-from : (word : List ℕ) (place : Place) (text : List ℕ) (end : Place) → IsAbout word → IsListed word (text ∷ []) place end → stanza_at place ≡ Some (About text, end)
about-from word place text end IsDescription l = listed-from listed.Description place (text ∷ []) (About text) end l refl
about-from word place text end IsAuthor l = listed-from listed.Author place (text ∷ []) (About text) end l refl
about-from word place text end IsVersion l = listed-from listed.Version place (text ∷ []) (About text) end l refl
about-from word place text end IsUsage l = listed-from listed.Usage place (text ∷ []) (About text) end l refl

run-from : (kind : Kind) (process : processes.Process) (place next : Place) (action : Action) (end : Place) → ((p : Place) → stanza_as kind p ≡ map_found (Runs process) (action_at p)) → Says place (word_of kind) next
    → IsAction action next end → stanza_at place ≡ Some (Runs process action, end)
run-from kind process place next action end same first is = readable-from kind place next (Runs process action) end first (same next ∙ ap (map_found (Runs process)) (action_at-Action next action end is))

pub stanza_at-StandsAt : (place : Place) (stanza : Stanza) (end : Place) → StandsAt place stanza end → stanza_at place ≡ Some (stanza, end)
stanza_at-StandsAt place (About text) end is = about-from is.0 place text end is.1 is.2
stanza_at-StandsAt place (Emits texts) end is = listed-from listed.Emits place texts (Emits texts) end is.1 (ap (option_map Emits) (one_or_more-from texts is.0))
stanza_at-StandsAt place (Env setting) end is = listed-from listed.Env place (is.0 ∷ []) (Env setting) end is.2 (ap (option_map Env) is.1)
stanza_at-StandsAt place (Export keys) end is =
    listed-from listed.Export place keys (Export keys) end is.2 (ap (option_map Export) (ap (option_and_then (each key_in)) (one_or_more-from keys is.0) ∙ keys-from keys is.1))
stanza_at-StandsAt place Task end is = listed-from listed.Task place [] Task end is refl
stanza_at-StandsAt place Manual end is = listed-from listed.Manual place [] Manual end is refl
stanza_at-StandsAt place Respawn end is = listed-from listed.Respawn place [] Respawn end is refl
stanza_at-StandsAt place (RespawnLimit limit) end is = listed-from listed.Respawn place (codes "limit" ∷ is.0) (RespawnLimit limit) end is.2 (ap (option_map RespawnLimit) is.1)
stanza_at-StandsAt place (NormalExit exits) end is =
    listed-from listed.Normal place (codes "exit" ∷ is.0) (NormalExit exits) end is.3
    (ap (option_map NormalExit) (ap (option_and_then (each exit_in)) (one_or_more-from is.0 is.1) ∙ each-from exit_in is.0 exits is.2))
stanza_at-StandsAt place (KillTimeout seconds) end is = listed-from listed.Kill place (codes "timeout" ∷ is.0 ∷ []) (KillTimeout seconds) end is.2 (ap (option_map KillTimeout) is.1)
stanza_at-StandsAt place (KillSignal signal) end is = listed-from listed.Kill place (codes "signal" ∷ is.0 ∷ []) (KillSignal signal) end is.2 (ap (option_map KillSignal) is.1)
stanza_at-StandsAt place (ReloadSignal signal) end is = listed-from listed.Reload place (codes "signal" ∷ is.0 ∷ []) (ReloadSignal signal) end is.2 (ap (option_map ReloadSignal) is.1)
stanza_at-StandsAt place (Instance text) end is = listed-from listed.Instance place (text ∷ []) (Instance text) end is.1 (rw is.0 refl)
stanza_at-StandsAt place (Console kind) end is = listed-from listed.Console place (is.0 ∷ []) (Console kind) end is.2 (ap (option_map Console) is.1)
stanza_at-StandsAt place (Chdir text) end is = listed-from listed.Chdir place (text ∷ []) (Chdir text) end is refl
stanza_at-StandsAt place (Runs process.Main action) end (inl is) = readable-from kind.Exec place is.next (Runs process.Main action) end is.first (ap (map_found (Runs process.Main)) (command_at-Exec place action end is))
stanza_at-StandsAt place (Runs process.Main action) end (inr is) = readable-from kind.Script place is.next (Runs process.Main action) end is.first (ap (map_found (Runs process.Main)) (script_at-Script place action end is))
stanza_at-StandsAt place (Runs process.PreStart action) end is = run-from kind.PreStart process.PreStart place is.0 action end (λ p. refl) is.1 is.2
stanza_at-StandsAt place (Runs process.PostStart action) end is = run-from kind.PostStart process.PostStart place is.0 action end (λ p. refl) is.1 is.2
stanza_at-StandsAt place (Runs process.PreStop action) end is = run-from kind.PreStop process.PreStop place is.0 action end (λ p. refl) is.1 is.2
stanza_at-StandsAt place (Runs process.PostStop action) end is = run-from kind.PostStop process.PostStop place is.0 action end (λ p. refl) is.1 is.2
stanza_at-StandsAt place (StartOn tree) end is = readable-from kind.Start place is.next (StartOn tree) end is.first (ap (map_found StartOn) (expression_by-On (codes "start") place tree end is))
stanza_at-StandsAt place (StopOn tree) end is = readable-from kind.Stop place is.next (StopOn tree) end is.first (ap (map_found StopOn) (expression_by-On (codes "stop") place tree end is))

-- a stanza begins with a token

pub stanza_first : (place : Place) (stanza : Stanza) (end : Place) → stanza_at place ≡ Some (stanza, end) → (token : Token) × (next : Place) × (reading place ≡ Got token next)
stanza_first place stanza end is = by_reading (reading place) refl is
  where
    by_reading : (r : Reading) → reading place ≡ r → stanza_by r ≡ Some (stanza, end) → (token : Token) × (next : Place) × (reading place ≡ Got token next)
    by_reading (Got token next) got is = (token, next, got)
    by_reading (Ended next) got is = absurd (cc)
    by_reading (Fails fault) got is = absurd (cc)
