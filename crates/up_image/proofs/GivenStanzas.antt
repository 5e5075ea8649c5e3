-- What each stanza of a readable file says can be given.
use Rattle.std.proofs.Common.{◌≡◌, inl, inr, ℕ, zero, suc, ◌<◌, Bool, true, false, cond, not, ◌&&◌, ◌||◌, ◌==◌, nat_le, List, [], ◌∷◌, ◌++◌, length, drop, map, Option, None, Some, option_map, refl, sym, ap, ◌∙◌, subst, IsUtf8, codes, leb-true, take_while}
use Rattle.std.specs.List.{list_all, list_any, before_first, after_first}
use Rattle.std.specs.Str.{is_utf8, bytes_eq}
use Rattle.std.proofs.lemmas.Bool.{and_from, and_parts, true≢false, not-true}
use Rattle.std.proofs.lemmas.List.Folds.{list_all-map}
use Rattle.std.proofs.lemmas.List.Sums.{take_while-cons}
use Rattle.std.proofs.lemmas.Str.{IsUtf8-nil, IsUtf8-from_is_utf8}
use Rattle.up_text.specs.declared.token.Token.{Token}
use Rattle.up_text.specs.Commands.{command_marks_at}
use Rattle.up_text.specs.Expansion.{is_expandable}
use Rattle.up_text.specs.Lists.{begins}
use Rattle.up_text.specs.Names.{is_key, is_equals, has_equals}
use Rattle.up_text.specs.Places.{Place, Got, Ended, start, reading, with_parens, place_after}
use Rattle.up_text.specs.Statements.{IsStatement}
use Rattle.up_text.specs.Tokens.{Mark, Part, Quoting, Folded, Blank, Passed, Stop, Mode, Outside, Comment, Escaped, Continued, Quoted, QuotedEscape, marks, mark_of, mark_outside, mark_quoted, mode_after, open_after, end_marks, is_line_feed, is_blank, is_hash, is_quote, is_backslash, reaches_feed}
use Rattle.up_stanza.specs.declared.exit.Exit.{Exit}
use Rattle.up_stanza.specs.declared.exit.Exit.TheVariants as exit
use Rattle.up_stanza.specs.declared.action.Action.{Action}
use Rattle.up_stanza.specs.declared.limit.Limit.{Limit}
use Rattle.up_stanza.specs.declared.process.Process as processes
use Rattle.up_stanza.specs.declared.process.Process.TheVariants as process
use Rattle.up_stanza.specs.declared.setting.Setting.{Setting}
use Rattle.up_stanza.specs.declared.stanza.Stanza.{Stanza}
use Rattle.up_stanza.specs.declared.stanza.Stanza.TheVariants.{About, Emits, Env, Export, Task, Manual, Respawn, RespawnLimit, NormalExit, KillTimeout, KillSignal, ReloadSignal, Instance, Console, Chdir, Runs, StartOn, StopOn}
use Rattle.up_stanza.specs.Arguments.{limit_of, limit_by}
use Rattle.up_stanza.specs.Confs.{is_readable}
use Rattle.up_stanza.specs.Grammar.{Says, IsListed, IsOn, IsExec, IsScript, IsAction, IsRun, StandsAt, Written, Conf}
use Rattle.up_stanza.specs.Numbers.{are_digits, decimal_of, number_between, number_in}
use Rattle.up_stanza.specs.Settings.{setting_in, setting_with, exit_in}
use Rattle.up_stanza.specs.Signals.{is_signal, signal_in, signal_named, without_sig}
use Rattle.up_stanza.proofs.Backward.{mapped, chosen}
use Rattle.up_stanza.proofs.Signals.{signal_numbers}
use Rattle.up_image.specs.Definable.{is_token, is_setting, is_value_token, is_exit, can_run, can_await}
use Rattle.up_image.specs.declared.limits.TheConstants.{MAX_COUNT, MAX_SECONDS}
use Rattle.up_image.proofs.Bounds.{max_text}
use Rattle.up_image.proofs.Thinning.{from_cut, push_text}
use Rattle.up_image.proofs.Spelling.{Good, ReadsGood, reading_good, good_rest, feed_low}
use Rattle.up_image.proofs.Rereading.{goes_on, front_marks}
use Rattle.up_image.proofs.GivenTrees.{are_tokens, value_token, tree_given}
use Rattle.up_image.proofs.GivenActions.{command_good}
use Rattle.up_image.proofs.GivenWords.{action_good}
use Rattle.up_image.proofs.GivenScripts.{script_good}
use Rattle.up_image.proofs.GivenLists.{AllGood}

-- numbers

number_range : (low high : ℕ) (text : List ℕ) (number : ℕ) → number_in low high text ≡ Some number → (nat_le low number && nat_le number high) ≡ true
unfolding number_in
number_range low high text number is =
    let made = chosen (number_between low high) (decimal_of text) number is in
    by_case (nat_le low made.x && nat_le made.x high) made.x refl made.gives
  where
    by_case : (b : Bool) (found : ℕ) → (nat_le low found && nat_le found high) ≡ b → cond b (Some found) None ≡ Some number → (nat_le low number && nat_le number high) ≡ true
    by_case true found e some = let same : found ≡ number = cc in ap (λ n. nat_le low n && nat_le n high) (sym same) ∙ e
    by_case false found e none = absurd (cc)

number_most : (low high : ℕ) (text : List ℕ) (number : ℕ) → number_in low high text ≡ Some number → nat_le number high ≡ true
number_most low high text number is = (and_parts (nat_le low number) (nat_le number high) (number_range low high text number is)).1

abbrev pub is_limit : Limit → Bool
is_limit limit = nat_le limit.count MAX_COUNT && nat_le limit.interval MAX_SECONDS

limit_same : (made limit : Limit) → Some made ≡ Some limit → is_limit made ≡ true → is_limit limit ≡ true
limit_same made limit is good = let same : made ≡ limit = cc in ap is_limit (sym same) ∙ good

limit_both : (count interval : Option ℕ) (limit : Limit) → ((n : ℕ) → count ≡ Some n → nat_le n MAX_COUNT ≡ true) → ((n : ℕ) → interval ≡ Some n → nat_le n MAX_SECONDS ≡ true) → limit_by count interval ≡ Some limit → is_limit limit ≡ true
limit_both None interval limit few short is = absurd (cc)
limit_both (Some count) None limit few short is = absurd (cc)
limit_both (Some count) (Some interval) limit few short is = limit_same (record { count = count; interval = interval }) limit is (and_from _ _ (few count refl) (short interval refl))

limit_good : (texts : List (List ℕ)) (limit : Limit) → limit_of texts ≡ Some limit → is_limit limit ≡ true
limit_good [] limit is = absurd (cc)
limit_good (text ∷ []) limit is = by_case (bytes_eq text (codes "unlimited")) is
  where
    by_case : (b : Bool) → cond b (Some (record { count = 0; interval = 0 })) None ≡ Some limit → is_limit limit ≡ true
    by_case true some = limit_same (record { count = 0; interval = 0 }) limit some refl
    by_case false none = absurd (cc)
limit_good (count ∷ interval ∷ []) limit is = limit_both _ _ limit (λ n e. number_most 0 MAX_COUNT count n e) (λ n e. number_most 0 MAX_SECONDS interval n e) is
limit_good (count ∷ interval ∷ third ∷ others) limit is = absurd (cc)

signal_good : (text : List ℕ) (signal : ℕ) → signal_in text ≡ Some signal → is_signal signal ≡ true
signal_good text signal is = by_case (are_digits text) is
  where
    by_case : (d : Bool) → cond d (number_in 1 31 text) (signal_named text) ≡ Some signal → is_signal signal ≡ true
    by_case true some = number_range 1 31 text signal some
    by_case false some = signal_numbers (without_sig text) signal some

exit_good : (text : List ℕ) (found : Exit) → exit_in text ≡ Some found → is_exit found ≡ true
exit_good text found is = by_case (are_digits text) is
  where
    by_case : (d : Bool) → cond d (option_map exit.Status (number_in 0 255 text)) (option_map exit.Signal (signal_named text)) ≡ Some found → is_exit found ≡ true
    by_case true some =
        let made = mapped exit.Status (number_in 0 255 text) found some in
        subst (λ e. is_exit e ≡ true) made.gives (number_most 0 255 text made.x made.is)
    by_case false some =
        let made = mapped exit.Signal (signal_named text) found some in
        subst (λ e. is_exit e ≡ true) made.gives (signal_numbers (without_sig text) made.x made.is)

exits_good : (texts : List (List ℕ)) (exits : List Exit) → map exit_in texts ≡ map Some exits → list_all is_exit exits ≡ true
exits_good texts [] is = refl
exits_good [] (found ∷ exits) is = absurd (cc)
exits_good (text ∷ texts) (found ∷ exits) is =
    let first : exit_in text ≡ Some found = cc in
    let later : map exit_in texts ≡ map Some exits = cc in
    and_from _ _ (exit_good text found first) (exits_good texts exits later)

setting_good : (text : List ℕ) (setting : Setting) → is_token text ≡ true → setting_in text ≡ Some setting → is_setting setting ≡ true
unfolding setting_in
setting_good text setting token is = by_equals (has_equals text) refl is
  where
    by_key : (key : List ℕ) (value : Option (List ℕ)) (k : Bool) → is_key key ≡ k → is_value_token value ≡ true → cond k (Some (record { key = key; value = value })) None ≡ Some setting → is_setting setting ≡ true
    by_key key value true ek told some = let same : record { key = key; value = value } ≡ setting = cc in ap is_setting (sym same) ∙ and_from _ _ ek told
    by_key key value false ek told none = absurd (cc)

    by_equals : (e : Bool) → has_equals text ≡ e → cond e (setting_with (before_first is_equals text) (Some (after_first is_equals text))) (setting_with text None) ≡ Some setting → is_setting setting ≡ true
    by_equals true some is = by_key (before_first is_equals text) (Some (after_first is_equals text)) (is_key (before_first is_equals text)) refl (value_token text token some) is
    by_equals false none is = by_key text None (is_key text) refl refl is

-- readings

token_good : (place : Place) (token : Token) (after : Place) → Good place.rest → reading place ≡ Got token after → (is_token token.text ≡ true) × Good after.rest
token_good place token after good is = subst ReadsGood is (reading_good place good)

end_good : (place after : Place) → Good place.rest → reading place ≡ Ended after → Good after.rest
end_good place after good is = subst ReadsGood is (reading_good place good)

says_good : (place : Place) (text : List ℕ) (after : Place) → Good place.rest → Says place text after → Good after.rest
says_good place text after good says = (token_good place says.token after good says.read).1

statement_good : (place : Place) (tokens : List Token) (after : Place) → Good place.rest → IsStatement place tokens after → (are_tokens tokens ≡ true) × Good after.rest
statement_good place [] after good is = (refl, end_good place after good is)
statement_good place (token ∷ tokens) after good (next, got, later) =
    let first = token_good place token next good got in
    let others = statement_good next tokens after first.1 later in
    (and_from _ _ first.0 others.0, others.1)

listed_good : (word : List ℕ) (arguments : List (List ℕ)) (place after : Place) → Good place.rest → IsListed word arguments place after → (list_all is_token arguments ≡ true) × Good after.rest
listed_good word arguments place after good is =
    let all = statement_good is.next is.tokens after (says_good place word is.next good is.first) is.statement in
    (ap (list_all is_token) is.texts ∙ list_all-map is_token (λ (token : Token). token.text) is.tokens ∙ all.0, all.1)

-- commands end before a line feed

drop_nil : (n : ℕ) → IsUtf8 (drop n [])
drop_nil zero = IsUtf8-nil
drop_nil (suc n) = IsUtf8-nil

outside_stop : (depth : ℕ) (joined : Bool) (b : ℕ) (text : List ℕ) → goes_on (mark_outside false depth joined b text) ≡ false → is_line_feed b ≡ true
outside_stop depth joined b text is = by_case (is_line_feed b) (is_blank b) (joined || reaches_feed text) (is_hash b) (is_backslash b) (begins is_line_feed text) (is_quote b) refl is
  where
    by_case : (f l r h k j q : Bool) → is_line_feed b ≡ f → goes_on (cond f (cond (depth == 0) Stop Passed) (cond l (cond r Passed (Blank b)) (cond h Passed (cond k (cond j Passed (Quoting b)) (cond q (Quoting b) (Part b)))))) ≡ false → is_line_feed b ≡ true
    by_case true l r h k j q ef stop = ef
    by_case false true true h k j q ef stop = absurd (true≢false stop)
    by_case false true false h k j q ef stop = absurd (true≢false stop)
    by_case false false r true k j q ef stop = absurd (true≢false stop)
    by_case false false r false true true q ef stop = absurd (true≢false stop)
    by_case false false r false true false q ef stop = absurd (true≢false stop)
    by_case false false r false false j true ef stop = absurd (true≢false stop)
    by_case false false r false false j false ef stop = absurd (true≢false stop)

quoted_stop : (quote : ℕ) (joined : Bool) (b : ℕ) (text : List ℕ) → goes_on (mark_quoted quote joined b text) ≡ false → ⊥
quoted_stop quote joined b text is = by_case (b == quote) (is_line_feed b) joined (is_blank b) (joined || reaches_feed text) (is_backslash b) (begins is_line_feed text) is
  where
    by_case : (s f o l r k j : Bool) → goes_on (cond s (Quoting b) (cond f (cond o Folded (Part 32)) (cond l (cond r Folded (Part b)) (cond k (cond j Folded (Quoting b)) (Part b))))) ≡ false → ⊥
    by_case true f o l r k j stop = true≢false stop
    by_case false true true l r k j stop = true≢false stop
    by_case false true false l r k j stop = true≢false stop
    by_case false false o true true k j stop = true≢false stop
    by_case false false o true false k j stop = true≢false stop
    by_case false false o false r true true stop = true≢false stop
    by_case false false o false r true false stop = true≢false stop
    by_case false false o false r false j stop = true≢false stop

comment_stop : (depth b : ℕ) (f : Bool) → is_line_feed b ≡ f → goes_on (cond f (cond (depth == 0) Stop Passed) Passed) ≡ false → is_line_feed b ≡ true
comment_stop depth b true ef stop = ef
comment_stop depth b false ef stop = absurd (true≢false stop)

stop_feeds : (depth : ℕ) (mode : Mode) (b : ℕ) (text : List ℕ) → goes_on (mark_of false depth mode b text) ≡ false → is_line_feed b ≡ true
stop_feeds depth (Outside joined) b text stop = outside_stop depth joined b text stop
stop_feeds depth Comment b text stop = comment_stop depth b (is_line_feed b) refl stop
stop_feeds depth Escaped b text stop = absurd (true≢false stop)
stop_feeds depth (Continued true) b text stop = absurd (true≢false stop)
stop_feeds depth (Continued false) b text stop = absurd (true≢false stop)
stop_feeds depth (Quoted quote joined) b text stop = absurd (quoted_stop quote joined b text stop)
stop_feeds depth (QuotedEscape quote) b text stop = absurd (true≢false stop)

row_rest : (depth : ℕ) (mode : Mode) (pending text : List ℕ) → IsUtf8 (pending ++ text) → IsUtf8 (drop (length (take_while goes_on (marks false depth mode text))) text)
row_rest depth mode pending [] utf8 = drop_nil (length (take_while goes_on (end_marks mode)))
row_rest depth mode pending (b ∷ text) utf8 =
    let mark = mark_of false depth mode b text in
    let later = marks false (open_after depth mark) (mode_after mode b text) text in
    subst (λ ms. IsUtf8 (drop (length ms) (b ∷ text))) (sym (take_while-cons goes_on mark later))
    (by_case (goes_on mark) mark (take_while goes_on later) (λ stop. feed_low b (stop_feeds depth mode b text stop)) (row_rest (open_after depth mark) (mode_after mode b text) (pending ++ b ∷ []) text (push_text pending b text utf8)))
  where
    by_case : (g : Bool) (mark : Mark) (later : List Mark) → (g ≡ false → b < 128) → IsUtf8 (drop (length later) text) → IsUtf8 (drop (length (cond g (mark ∷ later) [])) (b ∷ text))
    by_case true mark later low rest = rest
    by_case false mark later low rest = from_cut pending b text utf8 (low refl)

row_good : (place : Place) → Good place.rest → Good (place_after (length (command_marks_at place)) place).rest
unfolding command_marks_at
row_good place good = good_rest place.rest (length (front_marks (Outside false) place.rest)) good (row_rest 0 (Outside false) [] place.rest good.utf8)

-- processes

exec_good : (action : Action) (place after : Place) → Good place.rest → IsExec action place after → (can_run (Some action) ≡ true) × Good after.rest
exec_good action place after good is =
    let next = says_good place (codes "exec") is.next good is.first in (
      action_good _ action (command_good is.next next is.whole) is.says,
      end_good (place_after (length (command_marks_at is.next)) is.next) after (row_good is.next next) is.ends,
    )

lines_good : (action : Action) (place after : Place) → Good place.rest → IsScript action place after → (can_run (Some action) ≡ true) × Good after.rest
lines_good action place after good is =
    let next = says_good place (codes "script") is.next good is.first in
    let later = end_good is.next is.later next is.ends in
    let script = script_good is.later.rest (is.lines, is.last) later is.script in
    (ap (λ a. can_run (Some a)) is.says ∙ script.0, subst Good (sym (ap (λ (p : Place). p.rest) is.is_after)) script.1)

act_good : (action : Action) (place after : Place) → Good place.rest → IsAction action place after → (can_run (Some action) ≡ true) × Good after.rest
act_good action place after good (inl is) = exec_good action place after good is
act_good action place after good (inr is) = lines_good action place after good is

run_good : (one : processes.Process) (action : Action) (place after : Place) → Good place.rest → IsRun one action place after → (can_run (Some action) ≡ true) × Good after.rest
run_good process.Main action place after good is = act_good action place after good is
run_good process.PreStart action place after good (next, says, is) = act_good action next after (says_good place _ next good says) is
run_good process.PostStart action place after good (next, says, is) = act_good action next after (says_good place _ next good says) is
run_good process.PreStop action place after good (next, says, is) = act_good action next after (says_good place _ next good says) is
run_good process.PostStop action place after good (next, says, is) = act_good action next after (says_good place _ next good says) is

-- stanzas

abbrev pub StanzaGood : Stanza → Type 0
StanzaGood (Env setting) = is_setting setting ≡ true
StanzaGood (Export keys) = list_all is_key keys ≡ true
StanzaGood (NormalExit exits) = list_all is_exit exits ≡ true
StanzaGood (RespawnLimit limit) = is_limit limit ≡ true
StanzaGood (KillTimeout seconds) = nat_le seconds MAX_SECONDS ≡ true
StanzaGood (KillSignal signal) = is_signal signal ≡ true
StanzaGood (ReloadSignal signal) = is_signal signal ≡ true
StanzaGood (Instance text) = (is_token text ≡ true) × (is_expandable text ≡ true)
StanzaGood (Chdir text) = is_token text ≡ true
StanzaGood (Runs process action) = can_run (Some action) ≡ true
StanzaGood (StartOn tree) = can_await (Some tree) ≡ true
StanzaGood (StopOn tree) = can_await (Some tree) ≡ true
StanzaGood stanza = Unit {0}

first_token : (word text : List ℕ) (place after : Place) → Good place.rest → IsListed word (text ∷ []) place after → (is_token text ≡ true) × Good after.rest
first_token word text place after good is = let all = listed_good word (text ∷ []) place after good is in ((and_parts (is_token text) true all.0).0, all.1)

on_good : (word : List ℕ) (tree : _) (place after : Place) → Good place.rest → IsOn word tree place after → (can_await (Some tree) ≡ true) × Good after.rest
on_good word tree place after good is =
    let next = says_good place word is.next good is.first in
    let later = says_good is.next (codes "on") is.later next is.second in
    let all = statement_good (with_parens true is.later) is.tokens is.end later is.statement in
    (tree_given is.tokens tree all.0 is.writes, subst Good (sym (ap (λ (p : Place). p.rest) is.is_after)) all.1)

pub stanza_good : (place : Place) (stanza : Stanza) (after : Place) → Good place.rest → StandsAt place stanza after → StanzaGood stanza × Good after.rest
stanza_good place (About text) after good (word, about, is) = (tt, (listed_good word (text ∷ []) place after good is).1)
stanza_good place (Emits texts) after good (filled, is) = (tt, (listed_good _ texts place after good is).1)
stanza_good place (Env setting) after good (text, says, is) = let one = first_token _ text place after good is in (setting_good text setting one.0 says, one.1)
stanza_good place (Export keys) after good (filled, all, is) = (all, (listed_good _ keys place after good is).1)
stanza_good place Task after good is = (tt, (listed_good _ [] place after good is).1)
stanza_good place Manual after good is = (tt, (listed_good _ [] place after good is).1)
stanza_good place Respawn after good is = (tt, (listed_good _ [] place after good is).1)
stanza_good place (RespawnLimit limit) after good (texts, says, is) = (limit_good texts limit says, (listed_good _ _ place after good is).1)
stanza_good place (NormalExit exits) after good (texts, filled, says, is) = (exits_good texts exits says, (listed_good _ _ place after good is).1)
stanza_good place (KillTimeout seconds) after good (text, says, is) = (number_most 0 MAX_SECONDS text seconds says, (listed_good _ _ place after good is).1)
stanza_good place (KillSignal signal) after good (text, says, is) = (signal_good text signal says, (listed_good _ _ place after good is).1)
stanza_good place (ReloadSignal signal) after good (text, says, is) = (signal_good text signal says, (listed_good _ _ place after good is).1)
stanza_good place (Instance text) after good (says, is) = let one = first_token _ text place after good is in ((one.0, says), one.1)
stanza_good place (Console kind) after good (text, says, is) = (tt, (listed_good _ _ place after good is).1)
stanza_good place (Chdir text) after good is = first_token _ text place after good is
stanza_good place (Runs one action) after good is = run_good one action place after good is
stanza_good place (StartOn tree) after good is = on_good _ tree place after good is
stanza_good place (StopOn tree) after good is = on_good _ tree place after good is

pub stanzas_good : (place : Place) (stanzas : List Stanza) → Good place.rest → Written place stanzas → AllGood StanzaGood stanzas
stanzas_good place [] good written = tt
stanzas_good place (stanza ∷ stanzas) good (after, stands, later) =
    let first = stanza_good place stanza after good stands in
    (first.0, stanzas_good after stanzas first.1 later)

readable_good : (bytes : List ℕ) → is_readable bytes ≡ true → Good bytes
unfolding is_readable
readable_good bytes is =
    let parts = and_parts _ (is_utf8 bytes) is in
    let more = and_parts (nat_le (length bytes) max_text) (not (list_any (λ byte. byte == 0) bytes)) parts.0 in
    record { utf8 = IsUtf8-from_is_utf8 bytes parts.1; clean = not-true _ more.1; short = leb-true (length bytes) max_text more.0 }

pub conf_good : (bytes : List ℕ) (stanzas : List Stanza) → Conf bytes stanzas → AllGood StanzaGood stanzas
conf_good bytes stanzas conf = stanzas_good (start bytes) stanzas (readable_good bytes conf.text) conf.written
