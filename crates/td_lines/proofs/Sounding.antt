-- What every file says has a host without NUL, a version, a seed of 32 octets, and traders of distinct and short names.
use Rattle.std.proofs.Common.{◌≡◌, ℕ, ◌+◌, ◌≤◌, ◌<◌, nat_eq, nat_le, nat_lt, Bool, true, false, not, ◌&&◌, ◌||◌, List}
use Rattle.std.proofs.Common.{[], ◌∷◌, ◌++◌, length}
use Rattle.std.proofs.Common.{map, if◌then◌else◌, Option, Some, None, is_some, IfSome, Result, Ok, Err, IfOk, refl}
use Rattle.std.proofs.Common.{sym, ap, ◌∙◌, subst, arith}
use Rattle.std.specs.List.{IsDistinct, list_all, list_any}
use Rattle.std.specs.Option.{option_map}
use Rattle.std.specs.Result.{result_ok}
use Rattle.std.specs.Str.{bytes_eq}
use Rattle.std.specs.Str.Lines.{lines}
use Rattle.std.proofs.lemmas.Bool.{eqb-true, leb-true, ltb-false, ltb-true, not-false}
use Rattle.std.proofs.lemmas.Bool.Decides.{nat_tests}
use Rattle.std.proofs.lemmas.Cmp.{nat_list_eq_equiv}
use Rattle.std.proofs.lemmas.Map.Keys.{IsDistinct-push}
use Rattle.hex.specs.Hex.{decode_of}
use Rattle.hex.specs.declared.error.FromHexError.{FromHexError}
use Rattle.td_cdr.specs.Names.{is_trader_byte, trader_name}
use Rattle.td_cdr.specs.Reading.{◌>>=◌}
use Rattle.td_cdr.specs.Text.{has_nul, HasNoNul}
use Rattle.td_ior.proofs.Numbers.{and-right}
use Rattle.td_ior.specs.Number.{number_after, number_below, numeral, port_of}
use Rattle.td_typecode.specs.declared.reference.Ior.{Ior}
use Rattle.td_ops.specs.declared.call.Change.{Change}
use Rattle.td_ops.specs.declared.call.Change.TheVariants as change
use Rattle.td_value.specs.declared.enumerations.FollowOption.{FollowOption}
use Rattle.td_value.specs.declared.structures.PropStruct.{PropStruct}
use Rattle.td_value.specs.declared.structures.Property.{Property}
use Rattle.td_lines.specs.Causes.{or_cause, refused_if}
use Rattle.td_lines.specs.Drafts.{close_entry, closed_with, has_trader, line_above, nothing_yet, offer_line, type_line}
use Rattle.td_lines.specs.Drafts.{with_entry}
use Rattle.td_lines.specs.Heads.{finish_trader, is_declared, last_trader, opened_trader, with_address, with_interface}
use Rattle.td_lines.specs.Heads.{with_declared, with_iiop, with_seed, with_set, with_stem, with_trader, with_version}
use Rattle.td_lines.specs.Homes.{parse_home, with_minor}
use Rattle.td_lines.specs.Keywords.{begin_of}
use Rattle.td_lines.specs.Laws.{AreShort, IsValidScript}
use Rattle.td_lines.specs.Linked.{parse_ends, inside_link, outside_link, parse_rules, with_inside, with_link}
use Rattle.td_lines.specs.Linked.{with_outside}
use Rattle.td_lines.specs.Octets.{parse_octets, parse_seed}
use Rattle.td_lines.specs.Offered.{new_offer, parse_proxy, with_added_property, with_dynamic, with_new_offer}
use Rattle.td_lines.specs.Offered.{with_offer, with_proxy, with_value}
use Rattle.td_lines.specs.Properties.{parse_dynamic, parse_prop, parse_property}
use Rattle.td_lines.specs.References.{parse_reference}
use Rattle.td_lines.specs.Scripts.{script_of_draft, go_on, rest_of_file, script, script_of, seed_or_zeros}
use Rattle.td_lines.specs.Steps.{LineStep, goes, stops, step, with_alone, with_begin, with_belonging, with_head}
use Rattle.td_lines.specs.Steps.{with_keyword, with_line, with_part}
use Rattle.td_lines.specs.Settings.{parse_setting}
use Rattle.td_lines.specs.Typed.{new_type, with_added_prop, with_new_type, with_prop, with_type}
use Rattle.td_lines.specs.Words.{cut_word, five_words, four_words, is_skipped, one_word, three_and_text, three_words}
use Rattle.td_lines.specs.Words.{two_and_text, two_words, words}
use Rattle.td_lines.specs.declared.cause.LineCause.{LineCause}
use Rattle.td_lines.specs.declared.cause.LineCause.TheVariants as cause
use Rattle.td_lines.specs.declared.draft.ScriptDraft.{ScriptDraft}
use Rattle.td_lines.specs.declared.draft.Open.{Open}
use Rattle.td_lines.specs.declared.draft.Open.TheVariants as opened
use Rattle.td_lines.specs.declared.draft.ProxyWords.{ProxyWords}
use Rattle.td_lines.specs.declared.entry.FileEntry.TheVariants as entry
use Rattle.td_lines.specs.declared.entry.Home.{Home}
use Rattle.td_lines.specs.declared.entry.Refused.{Refused}
use Rattle.td_lines.specs.declared.entry.Script.{Script}
use Rattle.td_lines.specs.declared.entry.TraderScript.{TraderScript}
use Rattle.td_lines.specs.declared.keyword.EntryHead.{EntryHead}
use Rattle.td_lines.specs.declared.keyword.EntryHead.TheVariants as head
use Rattle.td_lines.specs.declared.keyword.Keyword.{Keyword}
use Rattle.td_lines.specs.declared.keyword.Keyword.TheVariants.{Begins, Belongs}
use Rattle.td_lines.specs.declared.keyword.DetailKeyword.{DetailKeyword}
use Rattle.td_lines.specs.declared.keyword.DetailKeyword.TheVariants as part
use Rattle.td_lines.proofs.Pairs.{IsHalf, half}

abbrev names_in : List TraderScript → List (List ℕ)
names_in ts = map (λ (t : TraderScript). t.name) ts

names-push : (ts : List TraderScript) (t : TraderScript) → names_in (ts ++ t ∷ []) ≡ names_in ts ++ t.name ∷ []
names-push [] t = refl
names-push (x ∷ ts) t = ap (λ ns. x.name ∷ ns) (names-push ts t)

-- the names of those that are finished and of the last one, if there is one
abbrev names_of : Bool → List TraderScript → List ℕ → List (List ℕ)
names_of true ts name = names_in ts ++ name ∷ []
names_of false ts name = names_in ts

abbrev IsSeed : List ℕ → Type 0
IsSeed seed = length seed ≡ 32

record Holds (home : Option Home) (seed : Option (List ℕ)) (names : List (List ℕ)) (ended_traders : List TraderScript)
    (name : List ℕ) : Type 0 where
  pub host : IfSome home (λ (h : Home). HasNoNul h.host)
  pub short : IfSome home (λ (h : Home). length h.host ≤ 1000)
  pub version : IfSome home (λ (h : Home). h.minor ≤ 1)
  pub octets : IfSome seed IsSeed
  pub distinct : IsDistinct bytes_eq names
  pub named : names_of (not (nat_eq (length names) 0)) ended_traders name ≡ names
  pub last : length name ≤ 32
  pub others : AreShort ended_traders

-- the lines that leave these parts as they are keep this
abbrev IsDraft : ScriptDraft → Type 0
IsDraft d = Holds d.home d.seed d.names d.finished d.name

abbrev Keeps : Result ScriptDraft LineCause → Type 0
Keeps (Ok d) = IsDraft d
Keeps (Err c) = Unit {0}

keeps-bind : {A : Type 0} (content : Result A LineCause) (f : A → Result ScriptDraft LineCause) → ((x : A) → Keeps (f x))
    → Keeps (content >>= f)
keeps-bind (Ok x) f h = h x
keeps-bind (Err c) f h = tt

keeps-if : (test : Bool) (c : LineCause) (content : Result ScriptDraft LineCause) → (test ≡ false → Keeps content)
    → Keeps (refused_if test c content)
keeps-if true c content h = tt
keeps-if false c content h = h refl

-- ---- lines that begin an entry

abbrev home_with : List ℕ → ℕ → Home
home_with host port = record { host = host; port = port; minor = 0 }

keeps-home_case : (d : ScriptDraft) (host : List ℕ) (large nul : Bool) (port : Option ℕ) → nat_lt 1000 (length host) ≡ large
    → has_nul host ≡ nul → IsDraft d
    → Keeps (refused_if (large || nul) cause.Name
    (or_cause cause.Number port >>= λ (n : ℕ). Ok (home_with host n))
    >>= λ (home : Home). Ok (record d { home = Some home }))
keeps-home_case d host true nul port l e h = tt
keeps-home_case d host false true port l e h = tt
keeps-home_case d host false false None l e h = tt
keeps-home_case d host false false (Some n) l e h = record {
  host = e;
  short = ltb-false 1000 (length host) l;
  version = omega arith;
  octets = h.octets;
  distinct = h.distinct;
  named = h.named;
  last = h.last;
  others = h.others;
}

keeps-home : (d : ScriptDraft) (host port : List ℕ) → IsDraft d
    → Keeps (parse_home host port >>= λ (home : Home). Ok (record d { home = Some home }))
keeps-home d host port h =
    keeps-home_case d host (nat_lt 1000 (length host)) (has_nul host) (port_of port) refl refl h

keeps-address : (d : ScriptDraft) (line : List ℕ) → IsDraft d → Keeps (with_address d line)
unfolding with_address
keeps-address d line h =
    keeps-bind _ _
    (λ (said : List ℕ × List ℕ). keeps-if (is_some d.home) cause.Twice _ (λ _. keeps-home d said.0 said.1 h))

keeps-when : (test : Bool) (c : LineCause) (content : Result ScriptDraft LineCause) → Keeps content → Keeps (refused_if test c content)
keeps-when test c content h = keeps-if test c content (λ _. h)

-- words, and a test of the place
keeps-placed : {A : Type 0} (content : Result A LineCause) (test : Bool) (c : LineCause)
    (rest : A → Result ScriptDraft LineCause)
    → ((x : A) → Keeps (rest x)) → Keeps (content >>= λ x. refused_if test c (rest x))
keeps-placed content test c rest h =
    keeps-bind content (λ x. refused_if test c (rest x)) (λ x. keeps-when test c (rest x) (h x))

-- what is made of what is told
keeps-made : {A : Type 0} (content : Result A LineCause) (make : A → ScriptDraft) → ((x : A) → IsDraft (make x))
    → Keeps (content >>= λ x. Ok (make x))
keeps-made content make h = keeps-bind content (λ x. Ok (make x)) h

-- what is made of what is told, where that has a property
keeps-held : {A : Type 0} (P : A → Type 0) (content : Result A LineCause) (make : A → ScriptDraft) → IfOk content P
    → ((x : A) → P x → IsDraft (make x)) → Keeps (content >>= λ x. Ok (make x))
keeps-held P (Ok x) make p h = h x p
keeps-held P (Err c) make p h = tt

seed-case : (digits : List ℕ) (r : Result (List ℕ) FromHexError) (right : Bool) → nat_eq (length digits) 64 ≡ right
    → IfOk r (IsHalf digits) → IfOk (refused_if (not right) cause.Value (or_cause cause.Value (result_ok r))) IsSeed
seed-case digits (Ok os) true e h = omega (arith, h, eqb-true (length digits) 64 e)
seed-case digits (Err f) true e h = tt
seed-case digits r false e h = tt

seed-long : (digits : List ℕ) → IfOk (parse_seed digits) IsSeed
seed-long digits = seed-case digits (decode_of digits) (nat_eq (length digits) 64) refl (half digits)

abbrev seeded : ScriptDraft → List ℕ → ScriptDraft
seeded d seed = record d { seed = Some seed }

kept-seed : (d : ScriptDraft) (seed : List ℕ) → IsSeed seed → IsDraft d → IsDraft (seeded d seed)
kept-seed d seed long h = record {
  host = h.host;
  short = h.short;
  version = h.version;
  octets = long;
  distinct = h.distinct;
  named = h.named;
  last = h.last;
  others = h.others;
}

keeps-seed : (d : ScriptDraft) (line : List ℕ) → IsDraft d → Keeps (with_seed d line)
unfolding with_seed
keeps-seed d line h =
    keeps-placed (or_cause cause.Words (one_word line)) (not (is_some d.home) || has_trader d || d.iiop) cause.Place
    (λ (said : List ℕ). refused_if (is_some d.seed) cause.Twice
    (parse_seed said >>= λ (seed : List ℕ). Ok (seeded d seed)))
    (λ (said : List ℕ). keeps-when (is_some d.seed) cause.Twice
    (parse_seed said >>= λ (seed : List ℕ). Ok (seeded d seed))
    (keeps-held IsSeed (parse_seed said) (seeded d) (seed-long said) (λ (seed : List ℕ) long. kept-seed d seed long h)))

abbrev IsVersion : ℕ → Type 0
IsVersion minor = minor ≤ 1

version-case : (right : Bool) (word : List ℕ)
    → (numeral word && nat_lt (number_after 0 word) 2) ≡ right
    → IfOk (or_cause cause.Number (if right then Some (number_after 0 word) else None)) IsVersion
version-case true word e =
    let low : nat_lt (number_after 0 word) 2 ≡ true = and-right (numeral word) (nat_lt (number_after 0 word) 2) e in
    let below : number_after 0 word < 2 = ltb-true (number_after 0 word) 2 low in
    omega (arith, below)
version-case false word e = tt

version-low : (word : List ℕ) → IfOk (or_cause cause.Number (number_below 2 word)) IsVersion
unfolding number_below
version-low word = version-case (numeral word && nat_lt (number_after 0 word) 2) word refl

homes-host : (home : Option Home) (minor : ℕ) → IfSome home (λ (h : Home). HasNoNul h.host)
    → IfSome (option_map (with_minor minor) home) (λ (h : Home). HasNoNul h.host)
homes-host (Some h) minor k = k
homes-host None minor k = tt

homes-short : (home : Option Home) (minor : ℕ) → IfSome home (λ (h : Home). length h.host ≤ 1000)
    → IfSome (option_map (with_minor minor) home) (λ (h : Home). length h.host ≤ 1000)
homes-short (Some h) minor k = k
homes-short None minor k = tt

homes-version : (home : Option Home) (minor : ℕ) → minor ≤ 1
    → IfSome (option_map (with_minor minor) home) (λ (h : Home). h.minor ≤ 1)
homes-version (Some h) minor k = k
homes-version None minor k = tt

kept-version : (d : ScriptDraft) (minor : ℕ) → IsVersion minor → IsDraft d → IsDraft (with_version d minor)
kept-version d minor low h = record {
  host = homes-host d.home minor h.host;
  short = homes-short d.home minor h.short;
  version = homes-version d.home minor low;
  octets = h.octets;
  distinct = h.distinct;
  named = h.named;
  last = h.last;
  others = h.others;
}

keeps-iiop : (d : ScriptDraft) (line : List ℕ) → IsDraft d → Keeps (with_iiop d line)
unfolding with_iiop
keeps-iiop d line h =
    keeps-placed (or_cause cause.Words (one_word line)) (not (is_some d.home) || has_trader d) cause.Place
    (λ (said : List ℕ). refused_if d.iiop cause.Twice
    (or_cause cause.Number (number_below 2 said) >>= λ (minor : ℕ). Ok (with_version d minor)))
    (λ (said : List ℕ). keeps-when d.iiop cause.Twice
    (or_cause cause.Number (number_below 2 said) >>= λ (minor : ℕ). Ok (with_version d minor))
    (keeps-held IsVersion (or_cause cause.Number (number_below 2 said)) (with_version d) (version-low said)
    (λ (minor : ℕ) low. kept-version d minor low h)))

short-push : (ts : List TraderScript) (t : TraderScript) → AreShort ts → length t.name ≤ 32 → AreShort (ts ++ t ∷ [])
short-push [] t h k = (k, tt)
short-push (x ∷ ts) t h k = (h.0, short-push ts t h.1 k)

second-holds : (a b c : Bool) → (a && b && c) ≡ true → b ≡ true
second-holds true true c e = refl
second-holds true false c e = absurd (let bad : ⊥ = cc in bad)
second-holds false b c e = absurd (let bad : ⊥ = cc in bad)

short-name : (name : List ℕ) → not (trader_name name) ≡ false → length name ≤ 32
short-name name e =
    leb-true (length name) 32
    (second-holds (nat_le 1 (length name)) (nat_le (length name) 32) (list_all is_trader_byte name)
    (not-false (trader_name name) e))

has-one : (names : List (List ℕ)) (name : List ℕ) → not (nat_eq (length (names ++ name ∷ [])) 0) ≡ true
has-one [] name = refl
has-one (x ∷ names) name = grind (arith, nat_tests)

-- what is finished where there is a trader, and where there is none
abbrev finished_at : Bool → ScriptDraft → ScriptDraft
finished_at test d =
    if test
    then record d { finished = d.finished ++ last_trader d ∷ []; name = []; interfaces = []; entries = [] }
    else d

keeps-opened : (d : ScriptDraft) (name : List ℕ) (test : Bool) → has_trader d ≡ test → IsDraft d → length name ≤ 32
    → list_any (bytes_eq name) d.names ≡ false → IsDraft (opened_trader (finished_at test d) name)
keeps-opened d name true e h fits apart =
    let before : names_in d.finished ++ d.name ∷ [] ≡ d.names =
    ap (λ t. names_of t d.finished d.name) (sym e) ∙ h.named in
    record {
      host = h.host;
      short = h.short;
      version = h.version;
      octets = h.octets;
      distinct = IsDistinct-push nat_list_eq_equiv d.names name h.distinct apart;
      named =
          ap (λ t. names_of t (d.finished ++ last_trader d ∷ []) name) (has-one d.names name)
          ∙ ap (λ ns. ns ++ name ∷ []) (names-push d.finished (last_trader d) ∙ before);
      last = fits;
      others = short-push d.finished (last_trader d) h.others h.last;
    }
keeps-opened d name false e h fits apart =
    let before : names_in d.finished ≡ d.names = ap (λ t. names_of t d.finished d.name) (sym e) ∙ h.named in
    record {
      host = h.host;
      short = h.short;
      version = h.version;
      octets = h.octets;
      distinct = IsDistinct-push nat_list_eq_equiv d.names name h.distinct apart;
      named =
          ap (λ t. names_of t d.finished name) (has-one d.names name) ∙ ap (λ ns. ns ++ name ∷ []) before;
      last = fits;
      others = h.others;
    }

keeps-trader : (d : ScriptDraft) (line : List ℕ) → IsDraft d → Keeps (with_trader d line)
unfolding with_trader
keeps-trader d line h =
    keeps-placed (or_cause cause.Words (one_word line)) (not (is_some d.home) || nat_le 64 (length d.names)) cause.Place
    (λ (said : List ℕ). refused_if (not (trader_name said)) cause.Name
    (refused_if (list_any (bytes_eq said) d.names) cause.Twice (Ok (opened_trader (finish_trader d) said))))
    (λ (said : List ℕ). keeps-if (not (trader_name said)) cause.Name
    (refused_if (list_any (bytes_eq said) d.names) cause.Twice (Ok (opened_trader (finish_trader d) said)))
    (λ rightly. keeps-if (list_any (bytes_eq said) d.names) cause.Twice (Ok (opened_trader (finish_trader d) said))
    (λ apart. keeps-opened d said (has_trader d) refl h (short-name said rightly) apart)))

abbrev stemmed : ScriptDraft → ℕ → List ℕ → ScriptDraft
stemmed d n stem = with_entry d n (entry.Change (change.SetRequestIdStem stem))

keeps-stem : (d : ScriptDraft) (n : ℕ) (line : List ℕ) → IsDraft d → Keeps (with_stem d n line)
unfolding with_stem
keeps-stem d n line h =
    keeps-placed (or_cause cause.Words (one_word line)) (not (has_trader d)) cause.Place
    (λ (said : List ℕ). parse_octets said >>= λ (stem : List ℕ). Ok (stemmed d n stem))
    (λ (said : List ℕ). keeps-made (parse_octets said) (stemmed d n)
    (λ stem. h))

abbrev changed : ScriptDraft → ℕ → Change → ScriptDraft
changed d n c = with_entry d n (entry.Change c)

keeps-set : (d : ScriptDraft) (n : ℕ) (line : List ℕ) → IsDraft d → Keeps (with_set d n line)
unfolding with_set
keeps-set d n line h =
    keeps-placed (or_cause cause.Words (two_words line)) (not (has_trader d)) cause.Place
    (λ (said : List ℕ × List ℕ). parse_setting said.0 said.1 >>= λ (set : Change). Ok (changed d n set))
    (λ (said : List ℕ × List ℕ). keeps-made (parse_setting said.0 said.1) (changed d n)
    (λ set. h))

keeps-interface : (d : ScriptDraft) (line : List ℕ) → IsDraft d → Keeps (with_interface d line)
unfolding with_interface
keeps-interface d line h =
    keeps-placed (or_cause cause.Words (cut_word line)) (not (has_trader d) || d.typed) cause.Place
    (λ (said : List ℕ × List ℕ). refused_if (has_nul said.0) cause.Name
    (refused_if (is_declared said.0 d.interfaces) cause.Twice
    (refused_if (list_any has_nul (words said.1)) cause.Name (Ok (with_declared d said.0 (words said.1))))))
    (λ (said : List ℕ × List ℕ). keeps-when (has_nul said.0) cause.Name
    (refused_if (is_declared said.0 d.interfaces) cause.Twice
    (refused_if (list_any has_nul (words said.1)) cause.Name (Ok (with_declared d said.0 (words said.1)))))
    (keeps-when (is_declared said.0 d.interfaces) cause.Twice
    (refused_if (list_any has_nul (words said.1)) cause.Name (Ok (with_declared d said.0 (words said.1))))
    (keeps-when (list_any has_nul (words said.1)) cause.Name (Ok (with_declared d said.0 (words said.1)))
    h)))

abbrev typed_by : ScriptDraft → ℕ → List ℕ × List ℕ → List ℕ × List ℕ → ScriptDraft
typed_by d n name if_name = with_new_type d (new_type n name.0 if_name.0 if_name.1)

keeps-type : (d : ScriptDraft) (n : ℕ) (line : List ℕ) → IsDraft d → Keeps (with_type d n line)
unfolding with_type
keeps-type d n line h =
    keeps-bind (or_cause cause.Words (cut_word line))
    (λ (name : List ℕ × List ℕ). or_cause cause.Words (cut_word name.1) >>= λ (if_name : List ℕ × List ℕ).
    refused_if (not (has_trader d)) cause.Place
    (refused_if (has_nul if_name.0) cause.Name (Ok (typed_by d n name if_name))))
    (λ (name : List ℕ × List ℕ).
    keeps-placed (or_cause cause.Words (cut_word name.1)) (not (has_trader d)) cause.Place
    (λ (if_name : List ℕ × List ℕ). refused_if (has_nul if_name.0) cause.Name (Ok (typed_by d n name if_name)))
    (λ (if_name : List ℕ × List ℕ). keeps-when (has_nul if_name.0) cause.Name (Ok (typed_by d n name if_name))
    h))

abbrev offered_by : ScriptDraft → ℕ → List ℕ → Ior → ScriptDraft
offered_by d n name reference = with_new_offer d (new_offer n name reference None)

keeps-offer : (d : ScriptDraft) (n : ℕ) (line : List ℕ) → IsDraft d → Keeps (with_offer d n line)
unfolding with_offer
keeps-offer d n line h =
    keeps-placed (or_cause cause.Words (two_words line)) (not (has_trader d)) cause.Place
    (λ (said : List ℕ × List ℕ). parse_reference said.1 >>= λ (r : Ior). Ok (offered_by d n said.0 r))
    (λ (said : List ℕ × List ℕ). keeps-made (parse_reference said.1) (offered_by d n said.0)
    (λ r. h))

abbrev proxied_by : ScriptDraft → ℕ → List ℕ → Ior → ProxyWords → ScriptDraft
proxied_by d n name reference proxy = with_new_offer d (new_offer n name reference (Some proxy))

keeps-proxy : (d : ScriptDraft) (n : ℕ) (line : List ℕ) → IsDraft d → Keeps (with_proxy d n line)
unfolding with_proxy
keeps-proxy d n line h =
    keeps-placed (or_cause cause.Words (three_and_text line)) (not (has_trader d)) cause.Place
    (λ (said : List ℕ × List ℕ × List ℕ × List ℕ). parse_reference said.1 >>= λ (r : Ior).
    parse_proxy said.2 said.3 >>= λ (p : ProxyWords). Ok (proxied_by d n said.0 r p))
    (λ (said : List ℕ × List ℕ × List ℕ × List ℕ). keeps-bind (parse_reference said.1)
    (λ (r : Ior). parse_proxy said.2 said.3 >>= λ (p : ProxyWords). Ok (proxied_by d n said.0 r p))
    (λ (r : Ior). keeps-made (parse_proxy said.2 said.3) (proxied_by d n said.0 r)
    (λ p. h)))

abbrev outside : ScriptDraft → ℕ → List ℕ → Ior × Option Ior → FollowOption × FollowOption → ScriptDraft
outside d n name ends rules = with_entry d n (outside_link name ends.0 ends.1 rules.0 rules.1)

keeps-outside : (d : ScriptDraft) (n : ℕ) (line : List ℕ) → IsDraft d → Keeps (with_outside d n line)
unfolding with_outside
keeps-outside d n line h =
    keeps-placed (or_cause cause.Words (five_words line)) (not (has_trader d)) cause.Place
    (λ (said : List ℕ × List ℕ × List ℕ × List ℕ × List ℕ). parse_ends said.1 said.2 >>= λ (ends : Ior × Option Ior).
    parse_rules said.3 said.4 >>= λ (rules : FollowOption × FollowOption). Ok (outside d n said.0 ends rules))
    (λ (said : List ℕ × List ℕ × List ℕ × List ℕ × List ℕ). keeps-bind (parse_ends said.1 said.2)
    (λ (ends : Ior × Option Ior). parse_rules said.3 said.4 >>= λ (rules : FollowOption × FollowOption).
    Ok (outside d n said.0 ends rules))
    (λ (ends : Ior × Option Ior). keeps-made (parse_rules said.3 said.4) (outside d n said.0 ends)
    (λ rules. h)))

abbrev inside : ScriptDraft → ℕ → (name trader : List ℕ) → FollowOption × FollowOption → ScriptDraft
inside d n name trader rules = with_entry d n (inside_link name trader rules.0 rules.1)

keeps-inside : (d : ScriptDraft) (n : ℕ) (line : List ℕ) (said : Option (List ℕ × List ℕ × List ℕ × List ℕ)) → IsDraft d
    → Keeps (with_inside d n line said)
keeps-inside d n line None h = keeps-outside d n line h
keeps-inside d n line (Some said) h =
    keeps-when (not (has_trader d)) cause.Place
    (parse_rules said.2 said.3 >>= λ (rules : FollowOption × FollowOption). Ok (inside d n said.0 said.1 rules))
    (keeps-made (parse_rules said.2 said.3) (inside d n said.0 said.1)
    (λ rules. h))

keeps-link : (d : ScriptDraft) (n : ℕ) (line : List ℕ) → IsDraft d → Keeps (with_link d n line)
unfolding with_link
keeps-link d n line h = keeps-inside d n line (four_words line) h

keeps-head : (d : ScriptDraft) (n : ℕ) (k : EntryHead) (line : List ℕ) → IsDraft d → Keeps (with_head d n k line)
keeps-head d n head.Address line h = keeps-address d line h
keeps-head d n head.Seed line h = keeps-seed d line h
keeps-head d n head.Iiop line h = keeps-iiop d line h
keeps-head d n head.Trader line h = keeps-trader d line h
keeps-head d n head.Stem line h = keeps-stem d n line h
keeps-head d n head.Set line h = keeps-set d n line h
keeps-head d n head.Interface line h = keeps-interface d line h
keeps-head d n head.Type line h = keeps-type d n line h
keeps-head d n head.Offer line h = keeps-offer d n line h
keeps-head d n head.Proxy line h = keeps-proxy d n line h
keeps-head d n head.Link line h = keeps-link d n line h

-- ---- lines that belong to an entry

keeps-added_prop : (d : ScriptDraft) (above : Open) (p : PropStruct) → IsDraft d → Keeps (with_added_prop d above p)
keeps-added_prop d (opened.Type t) p h = h
keeps-added_prop d (opened.Offer o) p h = tt
keeps-added_prop d opened.Nothing p h = tt

keeps-prop : (d : ScriptDraft) (line : List ℕ) → IsDraft d → Keeps (with_prop d line)
unfolding with_prop
keeps-prop d line h =
    keeps-placed (or_cause cause.Words (three_words line)) (not (is_some (type_line d.above))) cause.Place
    (λ (said : List ℕ × List ℕ × List ℕ). parse_prop said.0 said.1 said.2 >>= λ (p : PropStruct).
    with_added_prop d d.above p)
    (λ (said : List ℕ × List ℕ × List ℕ). keeps-bind (parse_prop said.0 said.1 said.2)
    (λ (p : PropStruct). with_added_prop d d.above p) (λ (p : PropStruct). keeps-added_prop d d.above p h))

keeps-added_property : (d : ScriptDraft) (above : Open) (p : Property) → IsDraft d → Keeps (with_added_property d above p)
keeps-added_property d (opened.Offer o) p h = h
keeps-added_property d (opened.Type t) p h = tt
keeps-added_property d opened.Nothing p h = tt

keeps-value : (d : ScriptDraft) (line : List ℕ) → IsDraft d → Keeps (with_value d line)
unfolding with_value
keeps-value d line h =
    keeps-placed (or_cause cause.Words (two_and_text line)) (not (is_some (offer_line d.above))) cause.Place
    (λ (said : List ℕ × List ℕ × List ℕ). parse_property said.0 said.1 said.2 >>= λ (p : Property).
    with_added_property d d.above p)
    (λ (said : List ℕ × List ℕ × List ℕ). keeps-bind (parse_property said.0 said.1 said.2)
    (λ (p : Property). with_added_property d d.above p) (λ (p : Property). keeps-added_property d d.above p h))

keeps-dynamic : (d : ScriptDraft) (line : List ℕ) → IsDraft d → Keeps (with_dynamic d line)
unfolding with_dynamic
keeps-dynamic d line h =
    keeps-placed (or_cause cause.Words (three_words line)) (not (is_some (offer_line d.above))) cause.Place
    (λ (said : List ℕ × List ℕ × List ℕ). parse_dynamic said.0 said.1 said.2 >>= λ (p : Property).
    with_added_property d d.above p)
    (λ (said : List ℕ × List ℕ × List ℕ). keeps-bind (parse_dynamic said.0 said.1 said.2)
    (λ (p : Property). with_added_property d d.above p) (λ (p : Property). keeps-added_property d d.above p h))

keeps-part : (d : ScriptDraft) (k : DetailKeyword) (line : List ℕ) → IsDraft d → Keeps (with_part d k line)
keeps-part d part.Prop line h = keeps-prop d line h
keeps-part d part.With line h = keeps-value d line h
keeps-part d part.Dynamic line h = keeps-dynamic d line h

-- ---- lines

abbrev KeepsStep : LineStep → Type 0
KeepsStep (goes d) = IsDraft d
KeepsStep (stops d refused) = IsDraft d

keeps-step : (d : ScriptDraft) (n : ℕ) (content : Result ScriptDraft LineCause) → IsDraft d → Keeps content → KeepsStep (step d n content)
keeps-step d n (Ok more) h k = k
keeps-step d n (Err c) h k = h

keeps-closed_with : (d : ScriptDraft) (above : Open) → IsDraft d
    → IsDraft (closed_with (record d { above = opened.Nothing }) above)
keeps-closed_with d opened.Nothing h = h
keeps-closed_with d (opened.Type t) h = h
keeps-closed_with d (opened.Offer o) h = h

keeps-closed : (d : ScriptDraft) → IsDraft d → IsDraft (close_entry d)
keeps-closed d h = keeps-closed_with d d.above h

keeps-begin : (d : ScriptDraft) (n : ℕ) (k : EntryHead) (line : List ℕ) → IsDraft d → KeepsStep (with_begin d n k line)
unfolding with_begin
keeps-begin d n k line h =
    keeps-step (close_entry d) n _ (keeps-closed d h) (keeps-head (close_entry d) n k line (keeps-closed d h))

keeps-alone : (d : ScriptDraft) (n : ℕ) (k : DetailKeyword) (line : List ℕ) → IsDraft d → KeepsStep (with_alone d n k line)
unfolding with_alone
keeps-alone d n k line h =
    keeps-step (close_entry d) n _ (keeps-closed d h) (keeps-part (close_entry d) k line (keeps-closed d h))

keeps-belonging : (d : ScriptDraft) (n : ℕ) (k : DetailKeyword) (line : List ℕ) (above : Option ℕ) → IsDraft d
    → KeepsStep (with_belonging d n k line above)
keeps-belonging d n k line (Some first) h = keeps-step d first _ h (keeps-part d k line h)
keeps-belonging d n k line None h = keeps-alone d n k line h

keeps-keyword : (d : ScriptDraft) (n : ℕ) (begin : Option (Keyword × List ℕ)) → IsDraft d → KeepsStep (with_keyword d n begin)
keeps-keyword d n None h = keeps-closed d h
keeps-keyword d n (Some (Begins k, line)) h = keeps-begin d n k line h
keeps-keyword d n (Some (Belongs k, line)) h = keeps-belonging d n k line (line_above d.above k) h

keeps-line_case : (d : ScriptDraft) (n : ℕ) (skipped : Bool) (begin : Option (Keyword × List ℕ)) → IsDraft d
    → KeepsStep (if skipped then goes d else with_keyword d n begin)
keeps-line_case d n true begin h = h
keeps-line_case d n false begin h = keeps-keyword d n begin h

keeps-line : (d : ScriptDraft) (n : ℕ) (line : List ℕ) → IsDraft d → KeepsStep (with_line d n line)
unfolding with_line
keeps-line d n line h = keeps-line_case d n (is_skipped line) (begin_of line) h

-- ---- whole files

names-finished : (d : ScriptDraft) (test : Bool) → names_in (finished_at test d).finished ≡ names_of test d.finished d.name
names-finished d true = names-push d.finished (last_trader d)
names-finished d false = refl

short-finished : (d : ScriptDraft) (test : Bool) → IsDraft d → AreShort (finished_at test d).finished
short-finished d true h = short-push d.finished (last_trader d) h.others h.last
short-finished d false h = h.others

seed-or_zeros : (seed : Option (List ℕ)) → IfSome seed IsSeed → length (seed_or_zeros seed) ≡ 32
seed-or_zeros (Some seed) h = h
seed-or_zeros None h = refl

sound-script : (d : ScriptDraft) (refused : Option Refused) → IsDraft d → IsValidScript (script d refused)
sound-script d refused h = record {
  host = h.host;
  short = h.short;
  minor = h.version;
  seed = seed-or_zeros d.seed h.octets;
  distinct = subst (λ ns. IsDistinct bytes_eq ns) (sym (names-finished d (has_trader d) ∙ h.named)) h.distinct;
  names = short-finished d (has_trader d) h;
}

sound-whole_case : (d : ScriptDraft) (test : Bool) (refused : Refused) → IsDraft d
    → IsValidScript (if test then script d None else script d (Some refused))
sound-whole_case d true refused h = sound-script d None h
sound-whole_case d false refused h = sound-script d (Some refused) h

sound-ended : (d : ScriptDraft) → IsDraft d → IsValidScript (script_of_draft d)
sound-ended d h = sound-whole_case (close_entry d) (is_some (close_entry d).home) _ (keeps-closed d h)

sound-on : (s : LineStep) (f : ScriptDraft → Script) → KeepsStep s → ((d : ScriptDraft) → IsDraft d → IsValidScript (f d))
    → IsValidScript (go_on s f)
sound-on (goes d) f h more = more d h
sound-on (stops d refused) f h more = sound-script d (Some refused) h

sound-rest : (n : ℕ) (d : ScriptDraft) (all : List (List ℕ)) → IsDraft d → IsValidScript (rest_of_file n d all)
sound-rest n d [] h = sound-ended d h
sound-rest n d (line ∷ rest) h =
    sound-on (with_line d (n + 1) line) (λ (more : ScriptDraft). rest_of_file (n + 1) more rest) (keeps-line d (n + 1) line h)
    (λ (more : ScriptDraft) k. sound-rest (n + 1) more rest k)

nothing-said : IsDraft nothing_yet
unfolding IsDistinct
nothing-said = record {
  host = tt;
  short = tt;
  version = tt;
  octets = tt;
  distinct = tt;
  named = refl;
  last = omega arith;
  others = tt;
}

pub sound : (text : List ℕ) → IsValidScript (script_of text)
unfolding script_of
sound text = sound-rest 0 nothing_yet (lines text) nothing-said
