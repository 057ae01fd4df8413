-- What `clap` makes of words: those of a command, and all others.
use Rattle.std.proofs.Common.{◌⊎◌, inl, inr, ◌≡◌, ◌≢◌, ◌∙◌, ℕ, Bool, true, false, List, [], ◌∷◌, Option, Some, None, refl, ap, sym, subst, arith, codes, option_and_then, length, drop, ◌≤◌}
use Rattle.std.specs.Prelude.{bytes_eq}
use Rattle.std.specs.List.{list_all}
use Rattle.std.proofs.lemmas.Slice.Eq.{bytes_eq-Decides}
use Rattle.clap.proofs.OnLiterals.{clap_on_literals}
use Rattle.clap.specs.Lexer.{strip_byte}
use Rattle.clap.specs.Words.{App, Row, Text, fault_of, is_simple, is_simple_and_free, subcommand_of, built}
use Rattle.clap.specs.Faults.{built_fault, entered_fault, walk_fault}
use Rattle.clap.specs.Simple.{names_of}
use Rattle.clap.specs.Walk.{Held, nothing_held, walk, walk_from}
use Rattle.clap.proofs.WalkLemmas.{first_value-rows, walk_stopped}
use Rattle.clap.specs.declared.error.kind.ErrorKind.{ErrorKind}
use Rattle.clap.specs.Kinds.{IsAmong, Kinds, or_else}
use Rattle.clap.specs.declared.error.kind.ErrorKind.TheVariants.{MissingRequiredArgument, DisplayHelp, InvalidSubcommand, OutOfMemory, UnknownArgument}
use Rattle.command_line.specs.CommandLines.{nesthv_app, command_by}
use Rattle.command_line.specs.Commands.{OnFiles, Run, Replay, Check, is_plain, asked_by, save_of, work_of}
use Rattle.command_line.proofs.Numbers.{both_first, both_second}

-- what a walk asks of a word that is not empty and does not begin with a dash
record IsWord (word : List ℕ) : Type 0 where
  no_hyphen : strip_byte 45 word ≡ None
  no_hyphens : bytes_eq word (45 ∷ 45 ∷ []) ≡ false

is_word : (word : List ℕ) → is_plain word ≡ true → IsWord word
is_word [] h = cc
is_word (x ∷ rest) h = record { no_hyphen = grind (arith, h); no_hyphens = grind (arith, h) }

pub simple : is_simple_and_free nesthv_app ≡ true
unfolding clap_on_literals
simple = refl

pub simple_tree : is_simple nesthv_app ≡ true
unfolding clap_on_literals
simple_tree = refl

-- the words of each command are taken
run_taken : (name config : List ℕ) → IsWord config → fault_of nesthv_app (name ∷ codes "run" ∷ config ∷ []) ≡ []
unfolding clap_on_literals
run_taken name config h = simp (h.no_hyphens, h.no_hyphen) refl

check_taken : (name config : List ℕ) → IsWord config → fault_of nesthv_app (name ∷ codes "check" ∷ config ∷ []) ≡ []
unfolding clap_on_literals
check_taken name config h = simp (h.no_hyphens, h.no_hyphen) refl

replay_taken : (name config report : List ℕ) → IsWord config → IsWord report
    → fault_of nesthv_app (name ∷ codes "replay" ∷ config ∷ report ∷ []) ≡ []
unfolding clap_on_literals
replay_taken name config report h k = simp (h.no_hyphens, h.no_hyphen, k.no_hyphens, k.no_hyphen) refl

work_taken : (name seed size : List ℕ) → IsWord seed → IsWord size
    → fault_of nesthv_app (name ∷ codes "work" ∷ seed ∷ size ∷ []) ≡ []
unfolding clap_on_literals
work_taken name seed size h k = simp (h.no_hyphens, h.no_hyphen, k.no_hyphens, k.no_hyphen) refl

save_taken : (name config guest : List ℕ) → IsWord config → IsWord guest
    → fault_of nesthv_app (name ∷ codes "save" ∷ config ∷ guest ∷ []) ≡ []
unfolding clap_on_literals
save_taken name config guest h k = simp (h.no_hyphens, h.no_hyphen, k.no_hyphens, k.no_hyphen) refl

-- and give the command
run_given : (name config : List ℕ) → IsWord config
    → option_and_then command_by (subcommand_of nesthv_app (name ∷ codes "run" ∷ config ∷ [])) ≡ Some (OnFiles (Run config))
unfolding clap_on_literals
run_given name config h = simp (h.no_hyphens, h.no_hyphen) refl

check_given : (name config : List ℕ) → IsWord config
    → option_and_then command_by (subcommand_of nesthv_app (name ∷ codes "check" ∷ config ∷ [])) ≡ Some (OnFiles (Check config))
unfolding clap_on_literals
check_given name config h = simp (h.no_hyphens, h.no_hyphen) refl

replay_given : (name config report : List ℕ) → IsWord config → IsWord report
    → option_and_then command_by (subcommand_of nesthv_app (name ∷ codes "replay" ∷ config ∷ report ∷ [])) ≡ Some (OnFiles (Replay config report))
unfolding clap_on_literals
replay_given name config report h k = simp (h.no_hyphens, h.no_hyphen, k.no_hyphens, k.no_hyphen) refl

work_given : (name seed size : List ℕ) → IsWord seed → IsWord size
    → option_and_then command_by (subcommand_of nesthv_app (name ∷ codes "work" ∷ seed ∷ size ∷ [])) ≡ work_of seed size
unfolding clap_on_literals
work_given name seed size h k = simp (h.no_hyphens, h.no_hyphen, k.no_hyphens, k.no_hyphen) refl

save_given : (name config guest : List ℕ) → IsWord config → IsWord guest
    → option_and_then command_by (subcommand_of nesthv_app (name ∷ codes "save" ∷ config ∷ guest ∷ [])) ≡ save_of config guest
unfolding clap_on_literals
save_given name config guest h k = simp (h.no_hyphens, h.no_hyphen, k.no_hyphens, k.no_hyphen) refl

-- the first that fails
no_kinds_first : (a b : Kinds) → or_else a b ≡ [] → a ≡ []
no_kinds_first [] b h = refl
no_kinds_first (k ∷ ks) b h = h

no_kinds_second : (a b : Kinds) → or_else a b ≡ [] → b ≡ []
no_kinds_second [] b h = h
no_kinds_second (k ∷ ks) b h = cc

-- other words are refused
none_refused : (name : List ℕ) → fault_of nesthv_app (name ∷ []) ≢ []
unfolding clap_on_literals
none_refused name h = cc

run_alone : (name : List ℕ) → fault_of nesthv_app (name ∷ codes "run" ∷ []) ≢ []
unfolding clap_on_literals
run_alone name h = cc

check_alone : (name : List ℕ) → fault_of nesthv_app (name ∷ codes "check" ∷ []) ≢ []
unfolding clap_on_literals
check_alone name h = cc

replay_alone : (name : List ℕ) → fault_of nesthv_app (name ∷ codes "replay" ∷ []) ≢ []
unfolding clap_on_literals
replay_alone name h = cc

work_alone : (name : List ℕ) → fault_of nesthv_app (name ∷ codes "work" ∷ []) ≢ []
unfolding clap_on_literals
work_alone name h = cc

save_alone : (name : List ℕ) → fault_of nesthv_app (name ∷ codes "save" ∷ []) ≢ []
unfolding clap_on_literals
save_alone name h = cc

replay_short : (name config : List ℕ) → IsWord config → fault_of nesthv_app (name ∷ codes "replay" ∷ config ∷ []) ≡ MissingRequiredArgument ∷ []
unfolding clap_on_literals
replay_short name config h = simp (h.no_hyphens, h.no_hyphen) refl

work_short : (name seed : List ℕ) → IsWord seed → fault_of nesthv_app (name ∷ codes "work" ∷ seed ∷ []) ≡ MissingRequiredArgument ∷ []
unfolding clap_on_literals
work_short name seed h = simp (h.no_hyphens, h.no_hyphen) refl

save_short : (name config : List ℕ) → IsWord config → fault_of nesthv_app (name ∷ codes "save" ∷ config ∷ []) ≡ MissingRequiredArgument ∷ []
unfolding clap_on_literals
save_short name config h = simp (h.no_hyphens, h.no_hyphen) refl

help_refused : (name : List ℕ) (rest : List (List ℕ)) → fault_of nesthv_app (name ∷ codes "help" ∷ rest) ≡ DisplayHelp ∷ InvalidSubcommand ∷ []
unfolding clap_on_literals
help_refused name rest = refl

other_refused : (name verb : List ℕ) (rest : List (List ℕ)) → IsWord verb → bytes_eq (codes "run") verb ≡ false
    → bytes_eq (codes "replay") verb ≡ false → bytes_eq (codes "check") verb ≡ false
    → bytes_eq (codes "work") verb ≡ false → bytes_eq (codes "save") verb ≡ false → bytes_eq (codes "help") verb ≡ false
    → fault_of nesthv_app (name ∷ verb ∷ rest) ≡ UnknownArgument ∷ InvalidSubcommand ∷ []
unfolding clap_on_literals
other_refused name verb rest h run replay check work save help = simp (run, replay, check, work, save, help, h.no_hyphens, h.no_hyphen) refl

-- a command that no word stands in for, and words after those that it takes
below_none : (a : App) (h : Held) (words : List Text) → built_fault a h words ≡ []
    → entered_fault a (walk a.top.rules (names_of a) h words).stopped ≡ []
below_none a h words e =
    no_kinds_first _ _ (no_kinds_second (walk_fault a.top (names_of a) (walk_from h) words) _ e)

run_stops : (rest : List Text)
    → (walk (built nesthv_app).top.rules (names_of (built nesthv_app)) nothing_held (codes "run" ∷ rest)).stopped ≡ Some (codes "run", rest)
unfolding clap_on_literals
run_stops rest = ap (λ w. w.stopped)
    (sym (walk_stopped (built nesthv_app).top.rules (names_of (built nesthv_app)) (walk_from nothing_held) (codes "run") [] rest))

check_stops : (rest : List Text)
    → (walk (built nesthv_app).top.rules (names_of (built nesthv_app)) nothing_held (codes "check" ∷ rest)).stopped ≡ Some (codes "check", rest)
unfolding clap_on_literals
check_stops rest = ap (λ w. w.stopped)
    (sym (walk_stopped (built nesthv_app).top.rules (names_of (built nesthv_app)) (walk_from nothing_held) (codes "check") [] rest))

replay_stops : (rest : List Text)
    → (walk (built nesthv_app).top.rules (names_of (built nesthv_app)) nothing_held (codes "replay" ∷ rest)).stopped ≡ Some (codes "replay", rest)
unfolding clap_on_literals
replay_stops rest = ap (λ w. w.stopped)
    (sym (walk_stopped (built nesthv_app).top.rules (names_of (built nesthv_app)) (walk_from nothing_held) (codes "replay") [] rest))

work_stops : (rest : List Text)
    → (walk (built nesthv_app).top.rules (names_of (built nesthv_app)) nothing_held (codes "work" ∷ rest)).stopped ≡ Some (codes "work", rest)
unfolding clap_on_literals
work_stops rest = ap (λ w. w.stopped)
    (sym (walk_stopped (built nesthv_app).top.rules (names_of (built nesthv_app)) (walk_from nothing_held) (codes "work") [] rest))

save_stops : (rest : List Text)
    → (walk (built nesthv_app).top.rules (names_of (built nesthv_app)) nothing_held (codes "save" ∷ rest)).stopped ≡ Some (codes "save", rest)
unfolding clap_on_literals
save_stops rest = ap (λ w. w.stopped)
    (sym (walk_stopped (built nesthv_app).top.rules (names_of (built nesthv_app)) (walk_from nothing_held) (codes "save") [] rest))

run_more : (config more : List ℕ) (rest : List Text) → IsWord config → IsWord more
    → entered_fault (built nesthv_app) (Some (codes "run", config ∷ more ∷ rest)) ≡ UnknownArgument ∷ []
unfolding clap_on_literals
run_more config more rest h k = simp (h.no_hyphens, h.no_hyphen, k.no_hyphens, k.no_hyphen) refl

check_more : (config more : List ℕ) (rest : List Text) → IsWord config → IsWord more
    → entered_fault (built nesthv_app) (Some (codes "check", config ∷ more ∷ rest)) ≡ UnknownArgument ∷ []
unfolding clap_on_literals
check_more config more rest h k = simp (h.no_hyphens, h.no_hyphen, k.no_hyphens, k.no_hyphen) refl

replay_more : (config report more : List ℕ) (rest : List Text) → IsWord config → IsWord report → IsWord more
    → entered_fault (built nesthv_app) (Some (codes "replay", config ∷ report ∷ more ∷ rest)) ≡ UnknownArgument ∷ []
unfolding clap_on_literals
replay_more config report more rest h k l = simp (h.no_hyphens, h.no_hyphen, k.no_hyphens, k.no_hyphen, l.no_hyphens, l.no_hyphen) refl

work_more : (seed size more : List ℕ) (rest : List Text) → IsWord seed → IsWord size → IsWord more
    → entered_fault (built nesthv_app) (Some (codes "work", seed ∷ size ∷ more ∷ rest)) ≡ UnknownArgument ∷ []
unfolding clap_on_literals
work_more seed size more rest h k l = simp (h.no_hyphens, h.no_hyphen, k.no_hyphens, k.no_hyphen, l.no_hyphens, l.no_hyphen) refl

save_more : (config guest more : List ℕ) (rest : List Text) → IsWord config → IsWord guest → IsWord more
    → entered_fault (built nesthv_app) (Some (codes "save", config ∷ guest ∷ more ∷ rest)) ≡ UnknownArgument ∷ []
unfolding clap_on_literals
save_more config guest more rest h k l = simp (h.no_hyphens, h.no_hyphen, k.no_hyphens, k.no_hyphen, l.no_hyphens, l.no_hyphen) refl

some_kind : (kinds : Kinds) (k : ErrorKind) (ks : Kinds) → kinds ≡ k ∷ ks → kinds ≢ []
some_kind kinds k ks e f = cc

run_long : (name config more : List ℕ) (rest : List Text) → IsWord config → IsWord more
    → fault_of nesthv_app (name ∷ codes "run" ∷ config ∷ more ∷ rest) ≢ []
run_long name config more rest h k e = some_kind _ _ _ (run_more config more rest h k)
    (subst (λ stop. entered_fault (built nesthv_app) stop ≡ []) (run_stops (config ∷ more ∷ rest))
    (below_none (built nesthv_app) nothing_held (codes "run" ∷ config ∷ more ∷ rest) e))

check_long : (name config more : List ℕ) (rest : List Text) → IsWord config → IsWord more
    → fault_of nesthv_app (name ∷ codes "check" ∷ config ∷ more ∷ rest) ≢ []
check_long name config more rest h k e = some_kind _ _ _ (check_more config more rest h k)
    (subst (λ stop. entered_fault (built nesthv_app) stop ≡ []) (check_stops (config ∷ more ∷ rest))
    (below_none (built nesthv_app) nothing_held (codes "check" ∷ config ∷ more ∷ rest) e))

replay_long : (name config report more : List ℕ) (rest : List Text) → IsWord config → IsWord report → IsWord more
    → fault_of nesthv_app (name ∷ codes "replay" ∷ config ∷ report ∷ more ∷ rest) ≢ []
replay_long name config report more rest h k l e = some_kind _ _ _ (replay_more config report more rest h k l)
    (subst (λ stop. entered_fault (built nesthv_app) stop ≡ []) (replay_stops (config ∷ report ∷ more ∷ rest))
    (below_none (built nesthv_app) nothing_held (codes "replay" ∷ config ∷ report ∷ more ∷ rest) e))

work_long : (name seed size more : List ℕ) (rest : List Text) → IsWord seed → IsWord size → IsWord more
    → fault_of nesthv_app (name ∷ codes "work" ∷ seed ∷ size ∷ more ∷ rest) ≢ []
work_long name seed size more rest h k l e = some_kind _ _ _ (work_more seed size more rest h k l)
    (subst (λ stop. entered_fault (built nesthv_app) stop ≡ []) (work_stops (seed ∷ size ∷ more ∷ rest))
    (below_none (built nesthv_app) nothing_held (codes "work" ∷ seed ∷ size ∷ more ∷ rest) e))

save_long : (name config guest more : List ℕ) (rest : List Text) → IsWord config → IsWord guest → IsWord more
    → fault_of nesthv_app (name ∷ codes "save" ∷ config ∷ guest ∷ more ∷ rest) ≢ []
save_long name config guest more rest h k l e = some_kind _ _ _ (save_more config guest more rest h k l)
    (subst (λ stop. entered_fault (built nesthv_app) stop ≡ []) (save_stops (config ∷ guest ∷ more ∷ rest))
    (below_none (built nesthv_app) nothing_held (codes "save" ∷ config ∷ guest ∷ more ∷ rest) e))

first_word : (word : List ℕ) (rest : List (List ℕ)) → list_all is_plain (word ∷ rest) ≡ true → IsWord word
first_word word rest h = is_word word (both_first (is_plain word) (list_all is_plain rest) h)

rest_plain : (word : List ℕ) (rest : List (List ℕ)) → list_all is_plain (word ∷ rest) ≡ true → list_all is_plain rest ≡ true
rest_plain word rest h = both_second (is_plain word) (list_all is_plain rest) h

-- which verb a word is
record IsOther (verb : List ℕ) : Type 0 where
  run : bytes_eq (codes "run") verb ≡ false
  replay : bytes_eq (codes "replay") verb ≡ false
  check : bytes_eq (codes "check") verb ≡ false
  work : bytes_eq (codes "work") verb ≡ false
  save : bytes_eq (codes "save") verb ≡ false
  help : bytes_eq (codes "help") verb ≡ false

data Verb (verb : List ℕ) : Type 0 where
  is_run : verb ≡ codes "run" → Verb verb
  is_replay : verb ≡ codes "replay" → Verb verb
  is_check : verb ≡ codes "check" → Verb verb
  is_work : verb ≡ codes "work" → Verb verb
  is_save : verb ≡ codes "save" → Verb verb
  is_help : verb ≡ codes "help" → Verb verb
  is_other : IsOther verb → Verb verb

is_text : (text verb : List ℕ) (r : Bool) → bytes_eq text verb ≡ r → (verb ≡ text) ⊎ (bytes_eq text verb ≡ false)
is_text text verb true e = inl (sym ((bytes_eq-Decides text verb).0 e))
is_text text verb false e = inr e

-- a word is this text, or it is not
abbrev IsOrNot : List ℕ → List ℕ → Type 0
IsOrNot text verb = (verb ≡ text) ⊎ (bytes_eq text verb ≡ false)

verb_by : (verb : List ℕ) → IsOrNot (codes "run") verb → IsOrNot (codes "replay") verb → IsOrNot (codes "check") verb → IsOrNot (codes "work") verb
    → IsOrNot (codes "save") verb → IsOrNot (codes "help") verb → Verb verb
verb_by verb (inl e) b c w s d = is_run e
verb_by verb (inr a) (inl e) c w s d = is_replay e
verb_by verb (inr a) (inr b) (inl e) w s d = is_check e
verb_by verb (inr a) (inr b) (inr c) (inl e) s d = is_work e
verb_by verb (inr a) (inr b) (inr c) (inr w) (inl e) d = is_save e
verb_by verb (inr a) (inr b) (inr c) (inr w) (inr s) (inl e) = is_help e
verb_by verb (inr a) (inr b) (inr c) (inr w) (inr s) (inr d) = is_other (record { run = a; replay = b; check = c; work = w; save = s; help = d })

verb_of : (verb : List ℕ) → Verb verb
verb_of verb =
    verb_by verb (is_text (codes "run") verb _ refl) (is_text (codes "replay") verb _ refl) (is_text (codes "check") verb _ refl) (is_text (codes "work") verb _ refl)
    (is_text (codes "save") verb _ refl) (is_text (codes "help") verb _ refl)

-- the matches of plain words that are taken say what the words ask for
abbrev Gives : List ℕ → List (List ℕ) → Type 0
Gives name words = list_all is_plain words ≡ true → fault_of nesthv_app (name ∷ words) ≡ []
    → option_and_then command_by (subcommand_of nesthv_app (name ∷ words)) ≡ asked_by words

gives_run : (name : List ℕ) (rest : List (List ℕ)) → Gives name (codes "run" ∷ rest)
gives_run name [] plain taken = absurd (run_alone name taken)
gives_run name (config ∷ []) plain taken = run_given name config (first_word config [] (rest_plain (codes "run") (config ∷ []) plain))
gives_run name (config ∷ more ∷ rest) plain taken =
    let tail = rest_plain (codes "run") (config ∷ more ∷ rest) plain in
    absurd (run_long name config more rest (first_word config (more ∷ rest) tail) (first_word more rest (rest_plain config (more ∷ rest) tail)) taken)

gives_check : (name : List ℕ) (rest : List (List ℕ)) → Gives name (codes "check" ∷ rest)
gives_check name [] plain taken = absurd (check_alone name taken)
gives_check name (config ∷ []) plain taken = check_given name config (first_word config [] (rest_plain (codes "check") (config ∷ []) plain))
gives_check name (config ∷ more ∷ rest) plain taken =
    let tail = rest_plain (codes "check") (config ∷ more ∷ rest) plain in
    absurd (check_long name config more rest (first_word config (more ∷ rest) tail) (first_word more rest (rest_plain config (more ∷ rest) tail)) taken)

gives_replay : (name : List ℕ) (rest : List (List ℕ)) → Gives name (codes "replay" ∷ rest)
gives_replay name [] plain taken = absurd (replay_alone name taken)
gives_replay name (config ∷ []) plain taken =
    absurd (some_kind _ _ _ (replay_short name config (first_word config [] (rest_plain (codes "replay") (config ∷ []) plain))) taken)
gives_replay name (config ∷ report ∷ []) plain taken =
    let tail = rest_plain (codes "replay") (config ∷ report ∷ []) plain in
    replay_given name config report (first_word config (report ∷ []) tail) (first_word report [] (rest_plain config (report ∷ []) tail))
gives_replay name (config ∷ report ∷ more ∷ rest) plain taken =
    let tail = rest_plain (codes "replay") (config ∷ report ∷ more ∷ rest) plain in
    let last = rest_plain config (report ∷ more ∷ rest) tail in
    absurd (replay_long name config report more rest (first_word config (report ∷ more ∷ rest) tail) (first_word report (more ∷ rest) last)
    (first_word more rest (rest_plain report (more ∷ rest) last)) taken)

gives_work : (name : List ℕ) (rest : List (List ℕ)) → Gives name (codes "work" ∷ rest)
gives_work name [] plain taken = absurd (work_alone name taken)
gives_work name (seed ∷ []) plain taken =
    absurd (some_kind _ _ _ (work_short name seed (first_word seed [] (rest_plain (codes "work") (seed ∷ []) plain))) taken)
gives_work name (seed ∷ size ∷ []) plain taken =
    let tail = rest_plain (codes "work") (seed ∷ size ∷ []) plain in
    work_given name seed size (first_word seed (size ∷ []) tail) (first_word size [] (rest_plain seed (size ∷ []) tail))
gives_work name (seed ∷ size ∷ more ∷ rest) plain taken =
    let tail = rest_plain (codes "work") (seed ∷ size ∷ more ∷ rest) plain in
    let last = rest_plain seed (size ∷ more ∷ rest) tail in
    absurd (work_long name seed size more rest (first_word seed (size ∷ more ∷ rest) tail) (first_word size (more ∷ rest) last)
    (first_word more rest (rest_plain size (more ∷ rest) last)) taken)

gives_save : (name : List ℕ) (rest : List (List ℕ)) → Gives name (codes "save" ∷ rest)
gives_save name [] plain taken = absurd (save_alone name taken)
gives_save name (config ∷ []) plain taken =
    absurd (some_kind _ _ _ (save_short name config (first_word config [] (rest_plain (codes "save") (config ∷ []) plain))) taken)
gives_save name (config ∷ guest ∷ []) plain taken =
    let tail = rest_plain (codes "save") (config ∷ guest ∷ []) plain in
    save_given name config guest (first_word config (guest ∷ []) tail) (first_word guest [] (rest_plain config (guest ∷ []) tail))
gives_save name (config ∷ guest ∷ more ∷ rest) plain taken =
    let tail = rest_plain (codes "save") (config ∷ guest ∷ more ∷ rest) plain in
    let last = rest_plain config (guest ∷ more ∷ rest) tail in
    absurd (save_long name config guest more rest (first_word config (guest ∷ more ∷ rest) tail) (first_word guest (more ∷ rest) last)
    (first_word more rest (rest_plain guest (more ∷ rest) last)) taken)

gives_verb : (name verb : List ℕ) (rest : List (List ℕ)) → Verb verb → Gives name (verb ∷ rest)
gives_verb name verb rest (is_run e) = subst (λ v. Gives name (v ∷ rest)) (sym e) (gives_run name rest)
gives_verb name verb rest (is_replay e) = subst (λ v. Gives name (v ∷ rest)) (sym e) (gives_replay name rest)
gives_verb name verb rest (is_check e) = subst (λ v. Gives name (v ∷ rest)) (sym e) (gives_check name rest)
gives_verb name verb rest (is_work e) = subst (λ v. Gives name (v ∷ rest)) (sym e) (gives_work name rest)
gives_verb name verb rest (is_save e) = subst (λ v. Gives name (v ∷ rest)) (sym e) (gives_save name rest)
gives_verb name verb rest (is_help e) = subst (λ v. Gives name (v ∷ rest)) (sym e)
    (λ plain taken. absurd (some_kind _ _ _ (help_refused name rest) taken))
gives_verb name verb rest (is_other o) = λ plain taken.
    absurd (some_kind _ _ _ (other_refused name verb rest (first_word verb rest plain) o.run o.replay o.check o.work o.save o.help) taken)

pub words_given : (name : List ℕ) (words : List (List ℕ)) → list_all is_plain words ≡ true → fault_of nesthv_app (name ∷ words) ≡ []
    → option_and_then command_by (subcommand_of nesthv_app (name ∷ words)) ≡ asked_by words
words_given name [] plain taken = absurd (none_refused name taken)
words_given name (verb ∷ rest) plain taken = gives_verb name verb rest (verb_of verb) plain taken

-- plain words that are not taken ask for nothing
abbrev Refuses : List ℕ → List (List ℕ) → Type 0
Refuses name words = list_all is_plain words ≡ true → fault_of nesthv_app (name ∷ words) ≢ [] → asked_by words ≡ None

refuses_run : (name : List ℕ) (rest : List (List ℕ)) → Refuses name (codes "run" ∷ rest)
refuses_run name [] plain other = refl
refuses_run name (config ∷ []) plain other = absurd (other (run_taken name config (first_word config [] (rest_plain (codes "run") (config ∷ []) plain))))
refuses_run name (config ∷ more ∷ []) plain other = refl
refuses_run name (config ∷ more ∷ another ∷ rest) plain other = refl

refuses_check : (name : List ℕ) (rest : List (List ℕ)) → Refuses name (codes "check" ∷ rest)
refuses_check name [] plain other = refl
refuses_check name (config ∷ []) plain other = absurd (other (check_taken name config (first_word config [] (rest_plain (codes "check") (config ∷ []) plain))))
refuses_check name (config ∷ more ∷ []) plain other = refl
refuses_check name (config ∷ more ∷ another ∷ rest) plain other = refl

refuses_replay : (name : List ℕ) (rest : List (List ℕ)) → Refuses name (codes "replay" ∷ rest)
refuses_replay name [] plain other = refl
refuses_replay name (config ∷ []) plain other = refl
refuses_replay name (config ∷ report ∷ []) plain other =
    let tail = rest_plain (codes "replay") (config ∷ report ∷ []) plain in
    absurd (other (replay_taken name config report (first_word config (report ∷ []) tail) (first_word report [] (rest_plain config (report ∷ []) tail))))
refuses_replay name (config ∷ more ∷ another ∷ rest) plain other = refl

refuses_work : (name : List ℕ) (rest : List (List ℕ)) → Refuses name (codes "work" ∷ rest)
refuses_work name [] plain other = refl
refuses_work name (seed ∷ []) plain other = refl
refuses_work name (seed ∷ size ∷ []) plain other =
    let tail = rest_plain (codes "work") (seed ∷ size ∷ []) plain in
    absurd (other (work_taken name seed size (first_word seed (size ∷ []) tail) (first_word size [] (rest_plain seed (size ∷ []) tail))))
refuses_work name (seed ∷ more ∷ another ∷ rest) plain other = refl

refuses_save : (name : List ℕ) (rest : List (List ℕ)) → Refuses name (codes "save" ∷ rest)
refuses_save name [] plain other = refl
refuses_save name (config ∷ []) plain other = refl
refuses_save name (config ∷ guest ∷ []) plain other =
    let tail = rest_plain (codes "save") (config ∷ guest ∷ []) plain in
    absurd (other (save_taken name config guest (first_word config (guest ∷ []) tail) (first_word guest [] (rest_plain config (guest ∷ []) tail))))
refuses_save name (config ∷ more ∷ another ∷ rest) plain other = refl

asks_nothing : (verb : List ℕ) (rest : List (List ℕ)) → bytes_eq (codes "run") verb ≡ false → bytes_eq (codes "replay") verb ≡ false
    → bytes_eq (codes "check") verb ≡ false → bytes_eq (codes "work") verb ≡ false → bytes_eq (codes "save") verb ≡ false → asked_by (verb ∷ rest) ≡ None
asks_nothing verb [] run replay check work save = refl
asks_nothing verb (config ∷ []) run replay check work save = simp (run, check) refl
asks_nothing verb (first ∷ second ∷ []) run replay check work save = simp (replay, work, save) refl
asks_nothing verb (first ∷ second ∷ more ∷ rest) run replay check work save = refl

refuses_verb : (name verb : List ℕ) (rest : List (List ℕ)) → Verb verb → Refuses name (verb ∷ rest)
refuses_verb name verb rest (is_run e) = subst (λ v. Refuses name (v ∷ rest)) (sym e) (refuses_run name rest)
refuses_verb name verb rest (is_replay e) = subst (λ v. Refuses name (v ∷ rest)) (sym e) (refuses_replay name rest)
refuses_verb name verb rest (is_check e) = subst (λ v. Refuses name (v ∷ rest)) (sym e) (refuses_check name rest)
refuses_verb name verb rest (is_work e) = subst (λ v. Refuses name (v ∷ rest)) (sym e) (refuses_work name rest)
refuses_verb name verb rest (is_save e) = subst (λ v. Refuses name (v ∷ rest)) (sym e) (refuses_save name rest)
refuses_verb name verb rest (is_help e) = λ plain other. subst (λ v. asked_by (v ∷ rest) ≡ None) (sym e) (asks_nothing (codes "help") rest refl refl refl refl refl)
refuses_verb name verb rest (is_other o) = λ plain other. asks_nothing verb rest o.run o.replay o.check o.work o.save

pub words_refused : (name : List ℕ) (words : List (List ℕ)) → list_all is_plain words ≡ true → fault_of nesthv_app (name ∷ words) ≢ []
    → asked_by words ≡ None
words_refused name [] plain other = refl
words_refused name (verb ∷ rest) plain other = refuses_verb name verb rest (verb_of verb) plain other

-- a parse that failed, but not for lack of memory
pub words_failed : (name : List ℕ) (words : List (List ℕ)) (kind : ErrorKind) → list_all is_plain words ≡ true → kind ≢ OutOfMemory
    → (kind ≡ OutOfMemory) ⊎ IsAmong kind (fault_of nesthv_app (name ∷ words)) → asked_by words ≡ None
words_failed name words kind plain other (inl e) = absurd (other e)
words_failed name words kind plain other (inr among) =
    words_refused name words plain (λ e. subst (IsAmong kind) e among)

-- the same of what `clap` says of a command line and of the texts of words
pub parse_gives : {P : Type 0} (app : App) (words texts : List Text) (found : Option (Text × List Row)) → app ≡ nesthv_app → texts ≡ words
    → 1 ≤ length words → list_all is_plain (drop 1 words) ≡ true → (is_simple_and_free app ≡ true → fault_of app texts ≡ [])
    → (is_simple app ≡ true → P × (found ≡ subcommand_of app texts)) → option_and_then command_by found ≡ asked_by (drop 1 words)
parse_gives app [] texts found is same some plain free tree = grind (arith, some)
parse_gives app (name ∷ words) texts found is same some plain free tree =
    let taken : fault_of app texts ≡ [] = free (subst (λ a. is_simple_and_free a ≡ true) (sym is) simple) in
    let entered : found ≡ subcommand_of app texts = (tree (subst (λ a. is_simple a ≡ true) (sym is) simple_tree)).1 in
    ap (option_and_then command_by) (subst (λ a. found ≡ subcommand_of a (name ∷ words)) is (subst (λ t. found ≡ subcommand_of app t) same entered))
    ∙ words_given name words plain (subst (λ a. fault_of a (name ∷ words) ≡ []) is (subst (λ t. fault_of app t ≡ []) same taken))

pub parse_refuses : (app : App) (words texts : List Text) (kind : ErrorKind) → app ≡ nesthv_app → texts ≡ words → 1 ≤ length words
    → list_all is_plain (drop 1 words) ≡ true → kind ≢ OutOfMemory
    → (is_simple_and_free app ≡ true → (kind ≡ OutOfMemory) ⊎ IsAmong kind (fault_of app texts)) → asked_by (drop 1 words) ≡ None
parse_refuses app [] texts kind is same some plain other kinds = refl
parse_refuses app (name ∷ words) texts kind is same some plain other kinds =
    words_failed name words kind plain other
    (subst (λ a. (kind ≡ OutOfMemory) ⊎ IsAmong kind (fault_of a (name ∷ words))) is
    (subst (λ t. (kind ≡ OutOfMemory) ⊎ IsAmong kind (fault_of app t)) same (kinds (subst (λ a. is_simple_and_free a ≡ true) (sym is) simple))))

pub ruleset file_rules = (first_value-rows)
