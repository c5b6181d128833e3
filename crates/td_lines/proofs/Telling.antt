-- What the lines of a file tell of changes has a spelling, where each of their bytes is below 256.
use Rattle.std.proofs.Common.{◌≡◌, ℕ, zero, suc, ◌+◌, ◌-◌, ◌<◌, ◌==◌, nat_le, Bool, true, false, not, ◌||◌, List, []}
use Rattle.std.proofs.Common.{◌∷◌, ◌++◌, codes, length, take, drop, slice_index, if◌then◌else◌, Option, Some, None, IfSome, is_some, Result, Ok, Err}
use Rattle.std.proofs.Common.{IfOk, refl}
use Rattle.std.specs.List.{AllByRecursion, list_any, position, slice_split}
use Rattle.std.specs.Option.{option_map, unwrap_or}
use Rattle.std.specs.Str.{bytes_eq}
use Rattle.std.specs.Str.Lines.{lines, lines_of_parts}
use Rattle.td_cdr.specs.Format.{value_named}
use Rattle.td_cdr.specs.Lawful.{AreOctets}
use Rattle.td_cdr.specs.Names.{trader_name}
use Rattle.td_cdr.specs.Reading.{◌>>=◌}
use Rattle.td_cdr.specs.Sound.{text, ulong}
use Rattle.td_cdr.specs.Text.{has_nul, HasNoNul}
use Rattle.td_typecode.specs.References.{reference}
use Rattle.td_typecode.specs.declared.code.Value.{Value}
use Rattle.td_typecode.specs.declared.reference.Ior.{Ior}
use Rattle.td_forms.specs.Types.{code_of, value_type_of}
use Rattle.td_forms.specs.Values.{value_of}
use Rattle.td_forms.specs.Words.{mode_named, rule_named, truth_named}
use Rattle.td_forms.specs.declared.value_type.ValueType.{ValueType}
use Rattle.td_ior.proofs.Numbers.{below-parts}
use Rattle.td_ior.specs.Keys.{◌>>=◌ as ◌and_then◌}
use Rattle.td_ior.specs.Nil.{is_nil}
use Rattle.td_ior.specs.Number.{number_below}
use Rattle.td_ior.specs.Texts.{reference_in}
use Rattle.td_lines.proofs.ToldValues.{AreBytes, code-content, dynamic-content, plain-content, reference-content}
use Rattle.td_lines.proofs.ToldValues.{split-bytes}
use Rattle.td_lines.specs.Causes.{or_cause, refused_if}
use Rattle.td_lines.specs.Drafts.{type_change, close_entry, closed_with, offer_change, has_trader, line_above}
use Rattle.td_lines.specs.Drafts.{nothing_yet, offer_line}
use Rattle.td_lines.specs.Drafts.{type_line, with_entry}
use Rattle.td_lines.specs.Heads.{finish_trader, is_declared, last_trader, opened_trader, with_address, with_declared}
use Rattle.td_lines.specs.Heads.{with_iiop, with_interface, with_seed, with_set, with_stem, with_trader, with_version}
use Rattle.td_lines.specs.Homes.{parse_home}
use Rattle.td_lines.specs.Keywords.{begin_of, keyword_name, keywords}
use Rattle.td_lines.specs.Linked.{parse_ends, inside_link, outside_link, parse_rules, with_inside, with_link}
use Rattle.td_lines.specs.Linked.{with_outside}
use Rattle.td_lines.specs.Octets.{parse_octets, parse_seed}
use Rattle.td_lines.specs.Offered.{how_named, new_offer, parse_proxy, with_added_property, with_dynamic, with_new_offer}
use Rattle.td_lines.specs.Offered.{with_offer, with_proxy, with_value}
use Rattle.td_lines.specs.Properties.{dynamic_any, parse_dynamic, property_named_as, plain_any, parse_prop, prop_with}
use Rattle.td_lines.specs.Properties.{parse_property}
use Rattle.td_lines.specs.Properties.{parse_value}
use Rattle.td_lines.specs.References.{parse_reference, register_of}
use Rattle.td_lines.specs.Scripts.{script_of_draft, go_on, rest_of_file, script, script_of}
use Rattle.td_lines.specs.Settings.{change_to, setting_name, parse_setting, settings}
use Rattle.td_lines.specs.Steps.{LineStep, goes, stops, step, with_alone, with_begin, with_belonging, with_head}
use Rattle.td_lines.specs.Steps.{with_keyword, with_line, with_part}
use Rattle.td_lines.specs.Parsing.{AreParsedEntries, AreParsedProperties, AreParsedScripts, AreParsedTypes}
use Rattle.td_lines.specs.Parsing.{IsParsedChange, IsParsedEntry}
use Rattle.td_lines.specs.Parsing.{IsParsedOffer, IsParsedRegister, IsParsedValue}
use Rattle.td_lines.specs.Typed.{new_type, with_added_prop, with_new_type, with_prop, with_type}
use Rattle.td_lines.specs.Words.{behind_space, cut_front, cut_word, five_words, four_words, is_blank, is_skipped, one_word}
use Rattle.td_lines.specs.Words.{three_and_text, three_words, two_and_text, two_words, words}
use Rattle.td_lines.specs.declared.cause.LineCause.{LineCause}
use Rattle.td_lines.specs.declared.cause.LineCause.TheVariants as cause
use Rattle.td_lines.specs.declared.draft.ScriptDraft.{ScriptDraft}
use Rattle.td_lines.specs.declared.draft.Open.{Open}
use Rattle.td_lines.specs.declared.draft.Open.TheVariants as opened
use Rattle.td_lines.specs.declared.draft.OpenOffer.{OpenOffer}
use Rattle.td_lines.specs.declared.draft.ProxyWords.{ProxyWords}
use Rattle.td_lines.specs.declared.entry.FileEntry.TheVariants as entry
use Rattle.td_lines.specs.declared.entry.Home.{Home}
use Rattle.td_lines.specs.declared.entry.Numbered.{Numbered}
use Rattle.td_lines.specs.declared.entry.Refused.{Refused}
use Rattle.td_lines.specs.declared.entry.Script.{Script}
use Rattle.td_lines.specs.declared.entry.TraderScript.{TraderScript}
use Rattle.td_lines.specs.declared.keyword.EntryHead.{EntryHead}
use Rattle.td_lines.specs.declared.keyword.EntryHead.TheVariants as head
use Rattle.td_lines.specs.declared.keyword.Keyword.{Keyword}
use Rattle.td_lines.specs.declared.keyword.Keyword.TheVariants.{Begins, Belongs}
use Rattle.td_lines.specs.declared.keyword.DetailKeyword.{DetailKeyword}
use Rattle.td_lines.specs.declared.keyword.DetailKeyword.TheVariants as part
use Rattle.td_lines.specs.declared.setting.Setting.{Setting}
use Rattle.td_lines.specs.declared.setting.Setting.TheVariants.{Truth, Number, Follow}
use Rattle.td_ops.specs.declared.call.Change.{Change}
use Rattle.td_ops.specs.declared.call.Change.TheVariants as change
use Rattle.td_value.specs.declared.enumerations.FollowOption.{FollowOption}
use Rattle.td_value.specs.declared.enumerations.PropertyMode.{PropertyMode}
use Rattle.td_value.specs.declared.structures.PropStruct.{PropStruct}
use Rattle.td_value.specs.declared.structures.Property.{Property}

-- ---- bytes of a line

drop-bytes : (n : ℕ) (xs : List ℕ) → AreBytes xs → AreBytes (drop n xs)
drop-bytes zero xs h = h
drop-bytes (suc n) [] h = tt
drop-bytes (suc n) (x ∷ xs) h = drop-bytes n xs h.1

take-bytes : (n : ℕ) (xs : List ℕ) → AreBytes xs → AreBytes (take n xs)
take-bytes zero xs h = tt
take-bytes (suc n) [] h = tt
take-bytes (suc n) (x ∷ xs) h = (h.0, take-bytes n xs h.1)

abbrev IsCutOfBytes : List ℕ × List ℕ → Type 0
IsCutOfBytes cut = AreBytes cut.1

cut-when : (blank : Bool) (later : Option (List ℕ × List ℕ)) (cut : List ℕ × List ℕ) → IfSome later IsCutOfBytes
    → IsCutOfBytes cut → IfSome (if blank then later else Some cut) IsCutOfBytes
cut-when true later cut h k = h
cut-when false later cut h k = k

cut-bytes : (line : List ℕ) → AreBytes line → IfSome (cut_word line) IsCutOfBytes
unfolding cut_word
cut-bytes [] h = tt
cut-bytes (b ∷ bytes) h =
    cut-when (is_blank b) (cut_word bytes) (cut_front (b ∷ bytes)) (cut-bytes bytes h.1)
    (drop-bytes (unwrap_or (position is_blank (b ∷ bytes)) (length (b ∷ bytes))) (b ∷ bytes) h)

bind-some : {A B : Type 0} (P : A → Type 0) (Q : B → Type 0) (o : Option A) (f : A → Option B) → IfSome o P
    → ((x : A) → P x → IfSome (f x) Q) → IfSome (o and_then f) Q
bind-some P Q None f h k = tt
bind-some P Q (Some x) f h k = k x h

begin-when : (o : Option Keyword) (rest : List ℕ) → AreBytes rest
    → IfSome (o and_then λ (k : Keyword). Some (k, rest)) (λ (begin : Keyword × List ℕ). AreBytes begin.1)
begin-when None rest h = tt
begin-when (Some k) rest h = h

begin-bytes : (line : List ℕ) → AreBytes line
    → IfSome (begin_of line) (λ (begin : Keyword × List ℕ). AreBytes begin.1)
unfolding begin_of
begin-bytes line h =
    bind-some IsCutOfBytes (λ (begin : Keyword × List ℕ). AreBytes begin.1) (cut_word line)
    (λ (cut : List ℕ × List ℕ). value_named keyword_name keywords cut.0 and_then λ (k : Keyword). Some (k, cut.1))
    (cut-bytes line h)
    (λ (cut : List ℕ × List ℕ) k. begin-when (value_named keyword_name keywords cut.0) cut.1 k)

space-when : (space : Bool) (rest : List ℕ) (a b : List ℕ) → AreBytes rest
    → IfSome ((if space then Some (drop 1 rest) else None) and_then λ (x : List ℕ). Some (a, b, x))
    (λ (s : List ℕ × List ℕ × List ℕ). AreBytes s.2)
space-when true rest a b h = drop-bytes 1 rest h
space-when false rest a b h = tt

text-bytes : (line : List ℕ) → AreBytes line
    → IfSome (two_and_text line) (λ (s : List ℕ × List ℕ × List ℕ). AreBytes s.2)
unfolding two_and_text
text-bytes line h =
    bind-some IsCutOfBytes (λ (s : List ℕ × List ℕ × List ℕ). AreBytes s.2) (cut_word line)
    (λ (a : List ℕ × List ℕ). cut_word a.1 and_then λ (b : List ℕ × List ℕ).
    behind_space b.1 and_then λ (x : List ℕ). Some (a.0, b.0, x))
    (cut-bytes line h)
    (λ (a : List ℕ × List ℕ) k. bind-some IsCutOfBytes (λ (s : List ℕ × List ℕ × List ℕ). AreBytes s.2) (cut_word a.1)
    (λ (b : List ℕ × List ℕ). behind_space b.1 and_then λ (x : List ℕ). Some (a.0, b.0, x)) (cut-bytes a.1 k)
    (λ (b : List ℕ × List ℕ) l. space-when (bytes_eq (take 1 b.1) (codes " ")) b.1 a.0 b.0 l))

-- ---- drafts

abbrev IsParsedProxy : Option ProxyWords → Type 0
IsParsedProxy None = Unit {0}
IsParsedProxy (Some p) = text.format.admits p.recipe

abbrev IsParsedOpen : Open → Type 0
IsParsedOpen opened.Nothing = Unit {0}
IsParsedOpen (opened.Type t) = text.format.admits t.if_name × AreParsedTypes t.props
IsParsedOpen (opened.Offer o) = IsParsedOffer o.reference o.properties × IsParsedProxy o.proxy

record Holds (es : List Numbered) (ts : List TraderScript) (o : Open) : Type 0 where
  pub entries : AreParsedEntries es
  pub others : AreParsedScripts ts
  pub above : IsParsedOpen o

abbrev IsDraft : ScriptDraft → Type 0
IsDraft d = Holds d.entries d.finished d.above

abbrev Keeps : Result ScriptDraft LineCause → Type 0
Keeps (Ok d) = IsDraft d
Keeps (Err c) = Unit {0}

push-entry : (es : List Numbered) (e : Numbered) → AreParsedEntries es → IsParsedEntry e.entry → AreParsedEntries (es ++ e ∷ [])
push-entry [] e h k = (k, tt)
push-entry (x ∷ es) e h k = (h.0, push-entry es e h.1 k)

push-script : (ts : List TraderScript) (t : TraderScript) → AreParsedScripts ts → AreParsedEntries t.entries
    → AreParsedScripts (ts ++ t ∷ [])
push-script [] t h k = (k, tt)
push-script (x ∷ ts) t h k = (h.0, push-script ts t h.1 k)

push-prop : (ps : List PropStruct) (p : PropStruct) → AreParsedTypes ps → AreParsedTypes (p ∷ []) → AreParsedTypes (ps ++ p ∷ [])
push-prop [] p h k = k
push-prop (x ∷ ps) p h k = (h.0, push-prop ps p h.1 k)

push-property : (ps : List Property) (p : Property) → AreParsedProperties ps → AreParsedProperties (p ∷ [])
    → AreParsedProperties (ps ++ p ∷ [])
push-property [] p h k = k
push-property (x ∷ ps) p h k = (h.0, push-property ps p h.1 k)

keeps-bind : {A : Type 0} (content : Result A LineCause) (f : A → Result ScriptDraft LineCause) → ((x : A) → Keeps (f x))
    → Keeps (content >>= f)
keeps-bind (Ok x) f h = h x
keeps-bind (Err c) f h = tt

keeps-if : (test : Bool) (c : LineCause) (content : Result ScriptDraft LineCause) → (test ≡ false → Keeps content)
    → Keeps (refused_if test c content)
keeps-if true c content h = tt
keeps-if false c content h = h refl

keeps-when : (test : Bool) (c : LineCause) (content : Result ScriptDraft LineCause) → Keeps content → Keeps (refused_if test c content)
keeps-when test c content h = keeps-if test c content (λ _. h)

-- words, and a test of the place
keeps-placed : {A : Type 0} (content : Result A LineCause) (test : Bool) (c : LineCause)
    (rest : A → Result ScriptDraft LineCause)
    → ((x : A) → Keeps (rest x)) → Keeps (content >>= λ x. refused_if test c (rest x))
keeps-placed content test c rest h =
    keeps-bind content (λ x. refused_if test c (rest x)) (λ x. keeps-when test c (rest x) (h x))

-- what is told, where that has a property
keeps-content : {A : Type 0} (P : A → Type 0) (content : Result A LineCause) (f : A → Result ScriptDraft LineCause) → IfOk content P
    → ((x : A) → P x → Keeps (f x)) → Keeps (content >>= f)
keeps-content P (Ok x) f p h = h x p
keeps-content P (Err c) f p h = tt

content-some : {A : Type 0} (P : A → Type 0) (c : LineCause) (o : Option A) → IfSome o P → IfOk (or_cause c o) P
content-some P c None h = tt
content-some P c (Some x) h = h

found-some : {A : Type 0} (P : A → Type 0) (o : Option A) → ((x : A) → o ≡ Some x → P x) → IfSome o P
found-some P None h = tt
found-some P (Some x) h = h x refl

reference-ok : (word : List ℕ) → IfOk (parse_reference word) reference.format.admits
reference-ok word =
    content-some reference.format.admits cause.Reference (reference_in word)
    (found-some reference.format.admits (reference_in word) (reference-content word))

kept-entry : (d : ScriptDraft) (n : ℕ) (c : Change) → IsDraft d → IsParsedChange c → IsDraft (with_entry d n (entry.Change c))
kept-entry d n c h k = record {
  entries = push-entry d.entries (record { line = n; entry = entry.Change c }) h.entries k;
  others = h.others;
  above = h.above;
}

-- ---- lines that begin an entry

keeps-address : (d : ScriptDraft) (line : List ℕ) → IsDraft d → Keeps (with_address d line)
unfolding with_address
keeps-address d line h =
    keeps-bind _ _
    (λ (said : List ℕ × List ℕ). keeps-when (is_some d.home) cause.Twice _
    (keeps-bind (parse_home said.0 said.1) (λ (home : Home). Ok (record d { home = Some home })) (λ home. h)))

abbrev seeded : ScriptDraft → List ℕ → ScriptDraft
seeded d seed = record d { seed = Some seed }

keeps-seed : (d : ScriptDraft) (line : List ℕ) → IsDraft d → Keeps (with_seed d line)
unfolding with_seed
keeps-seed d line h =
    keeps-placed (or_cause cause.Words (one_word line)) (not (is_some d.home) || has_trader d || d.iiop) cause.Place
    (λ (said : List ℕ). refused_if (is_some d.seed) cause.Twice
    (parse_seed said >>= λ (seed : List ℕ). Ok (seeded d seed)))
    (λ (said : List ℕ). keeps-when (is_some d.seed) cause.Twice
    (parse_seed said >>= λ (seed : List ℕ). Ok (seeded d seed))
    (keeps-bind (parse_seed said) (λ (seed : List ℕ). Ok (seeded d seed)) (λ seed. h)))

keeps-iiop : (d : ScriptDraft) (line : List ℕ) → IsDraft d → Keeps (with_iiop d line)
unfolding with_iiop
keeps-iiop d line h =
    keeps-placed (or_cause cause.Words (one_word line)) (not (is_some d.home) || has_trader d) cause.Place
    (λ (said : List ℕ). refused_if d.iiop cause.Twice
    (or_cause cause.Number (number_below 2 said) >>= λ (minor : ℕ). Ok (with_version d minor)))
    (λ (said : List ℕ). keeps-when d.iiop cause.Twice
    (or_cause cause.Number (number_below 2 said) >>= λ (minor : ℕ). Ok (with_version d minor))
    (keeps-bind (or_cause cause.Number (number_below 2 said)) (λ (minor : ℕ). Ok (with_version d minor)) (λ minor. h)))

-- what is finished where there is a trader, and where there is none
abbrev finished_at : Bool → ScriptDraft → ScriptDraft
finished_at test d =
    if test
    then record d { finished = d.finished ++ last_trader d ∷ []; name = []; interfaces = []; entries = [] }
    else d

kept-opened : (d : ScriptDraft) (name : List ℕ) (test : Bool) → IsDraft d → IsDraft (opened_trader (finished_at test d) name)
kept-opened d name true h = record {
  entries = tt;
  others = push-script d.finished (last_trader d) h.others h.entries;
  above = h.above;
}
kept-opened d name false h = record { entries = h.entries; others = h.others; above = h.above }

keeps-trader : (d : ScriptDraft) (line : List ℕ) → IsDraft d → Keeps (with_trader d line)
unfolding with_trader
keeps-trader d line h =
    keeps-placed (or_cause cause.Words (one_word line)) (not (is_some d.home) || nat_le 64 (length d.names)) cause.Place
    (λ (said : List ℕ). refused_if (not (trader_name said)) cause.Name
    (refused_if (list_any (bytes_eq said) d.names) cause.Twice (Ok (opened_trader (finish_trader d) said))))
    (λ (said : List ℕ). keeps-when (not (trader_name said)) cause.Name
    (refused_if (list_any (bytes_eq said) d.names) cause.Twice (Ok (opened_trader (finish_trader d) said)))
    (keeps-when (list_any (bytes_eq said) d.names) cause.Twice (Ok (opened_trader (finish_trader d) said))
    (kept-opened d said (has_trader d) h)))

abbrev changed : ScriptDraft → ℕ → Change → ScriptDraft
changed d n c = with_entry d n (entry.Change c)

keeps-stem : (d : ScriptDraft) (n : ℕ) (line : List ℕ) → IsDraft d → Keeps (with_stem d n line)
unfolding with_stem
keeps-stem d n line h =
    keeps-placed (or_cause cause.Words (one_word line)) (not (has_trader d)) cause.Place
    (λ (said : List ℕ). parse_octets said >>= λ (stem : List ℕ). Ok (changed d n (change.SetRequestIdStem stem)))
    (λ (said : List ℕ). keeps-bind (parse_octets said)
    (λ (stem : List ℕ). Ok (changed d n (change.SetRequestIdStem stem)))
    (λ (stem : List ℕ). kept-entry d n (change.SetRequestIdStem stem) h tt))

map-some : {A B : Type 0} (P : A → Type 0) (Q : B → Type 0) (f : A → B) (o : Option A) → IfSome o P
    → ((x : A) → P x → Q (f x)) → IfSome (option_map f o) Q
map-some P Q f None h k = tt
map-some P Q f (Some x) h k = k x h

any-some : {A : Type 0} (o : Option A) → IfSome o (λ (x : A). Unit {0})
any-some None = tt
any-some (Some x) = tt

low-some : (word : List ℕ) → IfSome (number_below 4294967296 word) ulong.format.admits
low-some word =
    found-some ulong.format.admits (number_below 4294967296 word)
    (λ (n : ℕ) e. (below-parts 4294967296 word n e).below)

set-content : (s : Setting) (word : List ℕ) → IfSome (change_to s word) IsParsedChange
set-content (Truth a) word =
    map-some (λ (x : Bool). Unit {0}) IsParsedChange (change.SetTruth a) (truth_named word) (any-some (truth_named word))
    (λ (x : Bool) h. tt)
set-content (Number a) word =
    map-some ulong.format.admits IsParsedChange (change.SetNumber a) (number_below 4294967296 word) (low-some word)
    (λ (x : ℕ) h. h)
set-content (Follow a) word =
    map-some (λ (x : FollowOption). Unit {0}) IsParsedChange (change.SetFollow a) (rule_named word) (any-some (rule_named word))
    (λ (x : FollowOption) h. tt)

setting-ok : (known : Result Setting LineCause) (word : List ℕ)
    → IfOk (known >>= λ (s : Setting). or_cause cause.Value (change_to s word)) IsParsedChange
setting-ok (Ok s) word = content-some IsParsedChange cause.Value (change_to s word) (set-content s word)
setting-ok (Err c) word = tt

keeps-set : (d : ScriptDraft) (n : ℕ) (line : List ℕ) → IsDraft d → Keeps (with_set d n line)
unfolding with_set
keeps-set d n line h =
    keeps-placed (or_cause cause.Words (two_words line)) (not (has_trader d)) cause.Place
    (λ (said : List ℕ × List ℕ). parse_setting said.0 said.1 >>= λ (set : Change). Ok (changed d n set))
    (λ (said : List ℕ × List ℕ). keeps-content IsParsedChange (parse_setting said.0 said.1)
    (λ (set : Change). Ok (changed d n set))
    (setting-ok (or_cause cause.Name (value_named setting_name settings said.0)) said.1)
    (λ (set : Change) content. kept-entry d n set h content))

keeps-interface : (d : ScriptDraft) (line : List ℕ) → IsDraft d → Keeps (with_interface d line)
unfolding with_interface
keeps-interface d line h =
    keeps-placed (or_cause cause.Words (cut_word line)) (not (has_trader d) || d.typed) cause.Place
    (λ (said : List ℕ × List ℕ). refused_if (has_nul said.0) cause.Name
    (refused_if (is_declared said.0 d.interfaces) cause.Twice
    (refused_if (list_any has_nul (words said.1)) cause.Name (Ok (with_declared d said.0 (words said.1))))))
    (λ (said : List ℕ × List ℕ). keeps-when (has_nul said.0) cause.Name
    (refused_if (is_declared said.0 d.interfaces) cause.Twice
    (refused_if (list_any has_nul (words said.1)) cause.Name (Ok (with_declared d said.0 (words said.1)))))
    (keeps-when (is_declared said.0 d.interfaces) cause.Twice
    (refused_if (list_any has_nul (words said.1)) cause.Name (Ok (with_declared d said.0 (words said.1))))
    (keeps-when (list_any has_nul (words said.1)) cause.Name (Ok (with_declared d said.0 (words said.1)))
    h)))

if-clean : (dash : Bool) (word : List ℕ) → HasNoNul word → HasNoNul (if dash then [] else word)
if-clean true word h = refl
if-clean false word h = h

abbrev typed_by : ScriptDraft → ℕ → List ℕ × List ℕ → List ℕ × List ℕ → ScriptDraft
typed_by d n name if_name = with_new_type d (new_type n name.0 if_name.0 if_name.1)

kept-type : (d : ScriptDraft) (n : ℕ) (name if_name : List ℕ × List ℕ) → IsDraft d → HasNoNul if_name.0
    → IsDraft (typed_by d n name if_name)
kept-type d n name if_name h clean = record {
  entries = h.entries;
  others = h.others;
  above = (if-clean (bytes_eq if_name.0 (codes "-")) if_name.0 clean, tt);
}

keeps-type : (d : ScriptDraft) (n : ℕ) (line : List ℕ) → IsDraft d → Keeps (with_type d n line)
unfolding with_type
keeps-type d n line h =
    keeps-bind (or_cause cause.Words (cut_word line))
    (λ (name : List ℕ × List ℕ). or_cause cause.Words (cut_word name.1) >>= λ (if_name : List ℕ × List ℕ).
    refused_if (not (has_trader d)) cause.Place
    (refused_if (has_nul if_name.0) cause.Name (Ok (typed_by d n name if_name))))
    (λ (name : List ℕ × List ℕ).
    keeps-placed (or_cause cause.Words (cut_word name.1)) (not (has_trader d)) cause.Place
    (λ (if_name : List ℕ × List ℕ). refused_if (has_nul if_name.0) cause.Name (Ok (typed_by d n name if_name)))
    (λ (if_name : List ℕ × List ℕ). keeps-if (has_nul if_name.0) cause.Name (Ok (typed_by d n name if_name))
    (λ clean. kept-type d n name if_name h clean)))

kept-offer : (d : ScriptDraft) (n : ℕ) (name : List ℕ) (r : Ior) (p : Option ProxyWords) → IsDraft d
    → reference.format.admits r → IsParsedProxy p → IsDraft (with_new_offer d (new_offer n name r p))
kept-offer d n name r p h target proxy = record {
  entries = h.entries;
  others = h.others;
  above = (record { target = target; properties = tt }, proxy);
}

abbrev offered_by : ScriptDraft → ℕ → List ℕ → Ior → ScriptDraft
offered_by d n name r = with_new_offer d (new_offer n name r None)

keeps-offer : (d : ScriptDraft) (n : ℕ) (line : List ℕ) → IsDraft d → Keeps (with_offer d n line)
unfolding with_offer
keeps-offer d n line h =
    keeps-placed (or_cause cause.Words (two_words line)) (not (has_trader d)) cause.Place
    (λ (said : List ℕ × List ℕ). parse_reference said.1 >>= λ (r : Ior). Ok (offered_by d n said.0 r))
    (λ (said : List ℕ × List ℕ). keeps-content reference.format.admits (parse_reference said.1)
    (λ (r : Ior). Ok (offered_by d n said.0 r)) (reference-ok said.1)
    (λ (r : Ior) target. kept-offer d n said.0 r None h target tt))

abbrev IsParsedWords : ProxyWords → Type 0
IsParsedWords p = text.format.admits p.recipe

abbrev proxy_words : Bool → List ℕ → ProxyWords
proxy_words all recipe = record { if_match_all = all; recipe = recipe }

words-when : (nul all : Bool) (recipe : List ℕ) → has_nul recipe ≡ nul
    → IfOk (refused_if nul cause.Name (Ok (proxy_words all recipe))) IsParsedWords
words-when true all recipe e = tt
words-when false all recipe e = e

proxy-ok : (how : Result Bool LineCause) (recipe : List ℕ)
    → IfOk (how >>= λ (all : Bool).
    refused_if (has_nul recipe) cause.Name (Ok (proxy_words all recipe)))
    IsParsedWords
proxy-ok (Ok all) recipe = words-when (has_nul recipe) all recipe refl
proxy-ok (Err c) recipe = tt

abbrev proxied_by : ScriptDraft → ℕ → List ℕ → Ior → ProxyWords → ScriptDraft
proxied_by d n name r p = with_new_offer d (new_offer n name r (Some p))

keeps-proxy : (d : ScriptDraft) (n : ℕ) (line : List ℕ) → IsDraft d → Keeps (with_proxy d n line)
unfolding with_proxy
keeps-proxy d n line h =
    keeps-placed (or_cause cause.Words (three_and_text line)) (not (has_trader d)) cause.Place
    (λ (said : List ℕ × List ℕ × List ℕ × List ℕ). parse_reference said.1 >>= λ (r : Ior).
    parse_proxy said.2 said.3 >>= λ (p : ProxyWords). Ok (proxied_by d n said.0 r p))
    (λ (said : List ℕ × List ℕ × List ℕ × List ℕ). keeps-content reference.format.admits (parse_reference said.1)
    (λ (r : Ior). parse_proxy said.2 said.3 >>= λ (p : ProxyWords). Ok (proxied_by d n said.0 r p))
    (reference-ok said.1)
    (λ (r : Ior) target. keeps-content IsParsedWords (parse_proxy said.2 said.3)
    (λ (p : ProxyWords). Ok (proxied_by d n said.0 r p))
    (proxy-ok (or_cause cause.Name (how_named said.2)) said.3)
    (λ (p : ProxyWords) clean. kept-offer d n said.0 r (Some p) h target clean)))

abbrev AreParsedEnds : Ior × Option Ior → Type 0
AreParsedEnds ends = reference.format.admits ends.0 × IsParsedRegister ends.1

register-when : (nil : Bool) (r : Ior) → reference.format.admits r → IsParsedRegister (if nil then None else Some r)
register-when true r h = tt
register-when false r h = h

ends-when : (target register : Result Ior LineCause) → IfOk target reference.format.admits
    → IfOk register reference.format.admits
    → IfOk (target >>= λ (known : Ior). (register >>= λ (r : Ior). Ok (register_of r)) >>= λ (found : Option Ior).
    Ok (known, found)) AreParsedEnds
ends-when (Err c) register h k = tt
ends-when (Ok t) (Err c) h k = tt
ends-when (Ok t) (Ok r) h k = (h, register-when (is_nil r) r k)

abbrev outside : ScriptDraft → ℕ → List ℕ → Ior × Option Ior → FollowOption × FollowOption → ScriptDraft
outside d n name ends rules = with_entry d n (outside_link name ends.0 ends.1 rules.0 rules.1)

keeps-outside : (d : ScriptDraft) (n : ℕ) (line : List ℕ) → IsDraft d → Keeps (with_outside d n line)
unfolding with_outside
keeps-outside d n line h =
    keeps-placed (or_cause cause.Words (five_words line)) (not (has_trader d)) cause.Place
    (λ (said : List ℕ × List ℕ × List ℕ × List ℕ × List ℕ). parse_ends said.1 said.2 >>= λ (ends : Ior × Option Ior).
    parse_rules said.3 said.4 >>= λ (rules : FollowOption × FollowOption). Ok (outside d n said.0 ends rules))
    (λ (said : List ℕ × List ℕ × List ℕ × List ℕ × List ℕ). keeps-content AreParsedEnds (parse_ends said.1 said.2)
    (λ (ends : Ior × Option Ior). parse_rules said.3 said.4 >>= λ (rules : FollowOption × FollowOption).
    Ok (outside d n said.0 ends rules))
    (ends-when (parse_reference said.1) (parse_reference said.2) (reference-ok said.1) (reference-ok said.2))
    (λ (ends : Ior × Option Ior) content. keeps-bind (parse_rules said.3 said.4)
    (λ (rules : FollowOption × FollowOption). Ok (outside d n said.0 ends rules))
    (λ (rules : FollowOption × FollowOption).
    kept-entry d n (change.AddLink said.0 ends.0 rules.0 rules.1 ends.1) h content)))

kept-inside : (d : ScriptDraft) (n : ℕ) (name trader : List ℕ) (first second : FollowOption) → IsDraft d
    → IsDraft (with_entry d n (inside_link name trader first second))
kept-inside d n name trader first second h = record {
  entries =
      push-entry d.entries (record { line = n; entry = entry.Link name trader first second }) h.entries tt;
  others = h.others;
  above = h.above;
}

abbrev inside : ScriptDraft → ℕ → (name trader : List ℕ) → FollowOption × FollowOption → ScriptDraft
inside d n name trader rules = with_entry d n (inside_link name trader rules.0 rules.1)

keeps-inside : (d : ScriptDraft) (n : ℕ) (line : List ℕ) (said : Option (List ℕ × List ℕ × List ℕ × List ℕ)) → IsDraft d
    → Keeps (with_inside d n line said)
keeps-inside d n line None h = keeps-outside d n line h
keeps-inside d n line (Some said) h =
    keeps-when (not (has_trader d)) cause.Place
    (parse_rules said.2 said.3 >>= λ (rules : FollowOption × FollowOption). Ok (inside d n said.0 said.1 rules))
    (keeps-bind (parse_rules said.2 said.3)
    (λ (rules : FollowOption × FollowOption). Ok (inside d n said.0 said.1 rules))
    (λ (rules : FollowOption × FollowOption). kept-inside d n said.0 said.1 rules.0 rules.1 h))

keeps-link : (d : ScriptDraft) (n : ℕ) (line : List ℕ) → IsDraft d → Keeps (with_link d n line)
unfolding with_link
keeps-link d n line h = keeps-inside d n line (four_words line) h

keeps-head : (d : ScriptDraft) (n : ℕ) (k : EntryHead) (line : List ℕ) → IsDraft d → Keeps (with_head d n k line)
keeps-head d n head.Address line h = keeps-address d line h
keeps-head d n head.Seed line h = keeps-seed d line h
keeps-head d n head.Iiop line h = keeps-iiop d line h
keeps-head d n head.Trader line h = keeps-trader d line h
keeps-head d n head.Stem line h = keeps-stem d n line h
keeps-head d n head.Set line h = keeps-set d n line h
keeps-head d n head.Interface line h = keeps-interface d line h
keeps-head d n head.Type line h = keeps-type d n line h
keeps-head d n head.Offer line h = keeps-offer d n line h
keeps-head d n head.Proxy line h = keeps-proxy d n line h
keeps-head d n head.Link line h = keeps-link d n line h

-- ---- lines that belong to an entry

keeps-added_prop : (d : ScriptDraft) (above : Open) (p : PropStruct) → IsDraft d → IsParsedOpen above → AreParsedTypes (p ∷ [])
    → Keeps (with_added_prop d above p)
keeps-added_prop d (opened.Type t) p h k content = record {
  entries = h.entries;
  others = h.others;
  above = (k.0, push-prop t.props p k.1 content);
}
keeps-added_prop d (opened.Offer o) p h k content = tt
keeps-added_prop d opened.Nothing p h k content = tt

prop-ok : (mode : Result PropertyMode LineCause) (type : Result ValueType LineCause) (name : List ℕ)
    → IfOk (mode >>= λ (m : PropertyMode). type >>= λ (t : ValueType). Ok (prop_with m t name))
    (λ (p : PropStruct). AreParsedTypes (p ∷ []))
prop-ok (Err c) type name = tt
prop-ok (Ok m) (Err c) name = tt
prop-ok (Ok m) (Ok t) name = (code-content t, tt)

keeps-prop : (d : ScriptDraft) (line : List ℕ) → IsDraft d → Keeps (with_prop d line)
unfolding with_prop
keeps-prop d line h =
    keeps-placed (or_cause cause.Words (three_words line)) (not (is_some (type_line d.above))) cause.Place
    (λ (said : List ℕ × List ℕ × List ℕ). parse_prop said.0 said.1 said.2 >>= λ (p : PropStruct).
    with_added_prop d d.above p)
    (λ (said : List ℕ × List ℕ × List ℕ). keeps-content (λ (p : PropStruct). AreParsedTypes (p ∷ []))
    (parse_prop said.0 said.1 said.2) (λ (p : PropStruct). with_added_prop d d.above p)
    (prop-ok (or_cause cause.Name (mode_named said.0)) (or_cause cause.Name (value_type_of said.1)) said.2)
    (λ (p : PropStruct) content. keeps-added_prop d d.above p h h.above content))

keeps-added_property : (d : ScriptDraft) (above : Open) (p : Property) → IsDraft d → IsParsedOpen above
    → AreParsedProperties (p ∷ []) → Keeps (with_added_property d above p)
keeps-added_property d (opened.Offer o) p h k content = record {
  entries = h.entries;
  others = h.others;
  above = (record { target = k.0.target; properties = push-property o.properties p k.0.properties content }, k.1);
}
keeps-added_property d (opened.Type t) p h k content = tt
keeps-added_property d opened.Nothing p h k content = tt

abbrev IsParsedOne : Property → Type 0
IsParsedOne p = AreParsedProperties (p ∷ [])

value-ok : (type : Result ValueType LineCause) (name said : List ℕ) → AreBytes said
    → IfOk (type >>= λ (t : ValueType). parse_value t said >>= λ (v : Value). Ok (property_named_as name (plain_any t v))) IsParsedOne
value-ok (Err c) name said h = tt
value-ok (Ok t) name said h = go (value_of t said) (λ v e. plain-content t said v h e)
  where
    go : (o : Option Value) → ((v : Value) → o ≡ Some v → IsParsedValue (plain_any t v))
        → IfOk (or_cause cause.Value o >>= λ (v : Value). Ok (property_named_as name (plain_any t v))) IsParsedOne
    go None k = tt
    go (Some v) k = (k v refl, tt)

keeps-value : (d : ScriptDraft) (line : List ℕ) → AreBytes line → IsDraft d → Keeps (with_value d line)
unfolding with_value
keeps-value d line bytes h =
    keeps-content (λ (said : List ℕ × List ℕ × List ℕ). AreBytes said.2) (or_cause cause.Words (two_and_text line))
    (λ (said : List ℕ × List ℕ × List ℕ). refused_if (not (is_some (offer_line d.above))) cause.Place
    (parse_property said.0 said.1 said.2 >>= λ (p : Property). with_added_property d d.above p))
    (content-some (λ (said : List ℕ × List ℕ × List ℕ). AreBytes said.2) cause.Words (two_and_text line)
    (text-bytes line bytes))
    (λ (said : List ℕ × List ℕ × List ℕ) low. keeps-when (not (is_some (offer_line d.above))) cause.Place
    (parse_property said.0 said.1 said.2 >>= λ (p : Property). with_added_property d d.above p)
    (keeps-content IsParsedOne (parse_property said.0 said.1 said.2) (λ (p : Property). with_added_property d d.above p)
    (value-ok (or_cause cause.Name (value_type_of said.0)) said.1 said.2 low)
    (λ (p : Property) content. keeps-added_property d d.above p h h.above content)))

dynamic-ok : (type : Result ValueType LineCause) (r : Result Ior LineCause) (name : List ℕ)
    → IfOk r reference.format.admits
    → IfOk (type >>= λ (t : ValueType). r >>= λ (e : Ior). Ok (property_named_as name (dynamic_any e (code_of t)))) IsParsedOne
dynamic-ok (Err c) r name h = tt
dynamic-ok (Ok t) (Err c) name h = tt
dynamic-ok (Ok t) (Ok e) name h = (dynamic-content e t h, tt)

keeps-dynamic : (d : ScriptDraft) (line : List ℕ) → IsDraft d → Keeps (with_dynamic d line)
unfolding with_dynamic
keeps-dynamic d line h =
    keeps-placed (or_cause cause.Words (three_words line)) (not (is_some (offer_line d.above))) cause.Place
    (λ (said : List ℕ × List ℕ × List ℕ). parse_dynamic said.0 said.1 said.2 >>= λ (p : Property).
    with_added_property d d.above p)
    (λ (said : List ℕ × List ℕ × List ℕ). keeps-content IsParsedOne (parse_dynamic said.0 said.1 said.2)
    (λ (p : Property). with_added_property d d.above p)
    (dynamic-ok (or_cause cause.Name (value_type_of said.0)) (parse_reference said.2) said.1 (reference-ok said.2))
    (λ (p : Property) content. keeps-added_property d d.above p h h.above content))

keeps-part : (d : ScriptDraft) (k : DetailKeyword) (line : List ℕ) → AreBytes line → IsDraft d → Keeps (with_part d k line)
keeps-part d part.Prop line bytes h = keeps-prop d line h
keeps-part d part.With line bytes h = keeps-value d line bytes h
keeps-part d part.Dynamic line bytes h = keeps-dynamic d line h

-- ---- lines

abbrev KeepsStep : LineStep → Type 0
KeepsStep (goes d) = IsDraft d
KeepsStep (stops d refused) = IsDraft d

keeps-step : (d : ScriptDraft) (n : ℕ) (content : Result ScriptDraft LineCause) → IsDraft d → Keeps content → KeepsStep (step d n content)
keeps-step d n (Ok more) h k = k
keeps-step d n (Err c) h k = h

exported : (o : OpenOffer) (p : Option ProxyWords) → IsParsedOffer o.reference o.properties → IsParsedProxy p
    → IsParsedChange (offer_change o p)
exported o None h k = h
exported o (Some p) h k = (h, k, refl)

keeps-closed_with : (d : ScriptDraft) (above : Open) → IsDraft d → IsParsedOpen above
    → IsDraft (closed_with (record d { above = opened.Nothing }) above)
keeps-closed_with d opened.Nothing h k = record { entries = h.entries; others = h.others; above = tt }
keeps-closed_with d (opened.Type t) h k =
    kept-entry (record d { above = opened.Nothing }) t.line (type_change t)
    (record { entries = h.entries; others = h.others; above = tt }) k
keeps-closed_with d (opened.Offer o) h k =
    kept-entry (record d { above = opened.Nothing }) o.line (offer_change o o.proxy)
    (record { entries = h.entries; others = h.others; above = tt }) (exported o o.proxy k.0 k.1)

keeps-closed : (d : ScriptDraft) → IsDraft d → IsDraft (close_entry d)
keeps-closed d h = keeps-closed_with d d.above h h.above

keeps-begin : (d : ScriptDraft) (n : ℕ) (k : EntryHead) (line : List ℕ) → IsDraft d → KeepsStep (with_begin d n k line)
unfolding with_begin
keeps-begin d n k line h =
    keeps-step (close_entry d) n _ (keeps-closed d h) (keeps-head (close_entry d) n k line (keeps-closed d h))

keeps-alone : (d : ScriptDraft) (n : ℕ) (k : DetailKeyword) (line : List ℕ) → AreBytes line → IsDraft d
    → KeepsStep (with_alone d n k line)
unfolding with_alone
keeps-alone d n k line bytes h =
    keeps-step (close_entry d) n _ (keeps-closed d h) (keeps-part (close_entry d) k line bytes (keeps-closed d h))

keeps-belonging : (d : ScriptDraft) (n : ℕ) (k : DetailKeyword) (line : List ℕ) (above : Option ℕ) → AreBytes line → IsDraft d
    → KeepsStep (with_belonging d n k line above)
keeps-belonging d n k line (Some first) bytes h = keeps-step d first _ h (keeps-part d k line bytes h)
keeps-belonging d n k line None bytes h = keeps-alone d n k line bytes h

keeps-keyword : (d : ScriptDraft) (n : ℕ) (begin : Option (Keyword × List ℕ))
    → IfSome begin (λ (begin : Keyword × List ℕ). AreBytes begin.1) → IsDraft d → KeepsStep (with_keyword d n begin)
keeps-keyword d n None bytes h = keeps-closed d h
keeps-keyword d n (Some (Begins k, line)) bytes h = keeps-begin d n k line h
keeps-keyword d n (Some (Belongs k, line)) bytes h = keeps-belonging d n k line (line_above d.above k) bytes h

keeps-line_case : (d : ScriptDraft) (n : ℕ) (skipped : Bool) (begin : Option (Keyword × List ℕ))
    → IfSome begin (λ (begin : Keyword × List ℕ). AreBytes begin.1) → IsDraft d
    → KeepsStep (if skipped then goes d else with_keyword d n begin)
keeps-line_case d n true begin bytes h = h
keeps-line_case d n false begin bytes h = keeps-keyword d n begin bytes h

keeps-line : (d : ScriptDraft) (n : ℕ) (line : List ℕ) → AreBytes line → IsDraft d → KeepsStep (with_line d n line)
unfolding with_line
keeps-line d n line bytes h = keeps-line_case d n (is_skipped line) (begin_of line) (begin-bytes line bytes) h

-- ---- whole files

content-finished : (d : ScriptDraft) (test : Bool) → IsDraft d → AreParsedScripts (finished_at test d).finished
content-finished d true h = push-script d.finished (last_trader d) h.others h.entries
content-finished d false h = h.others

content-script : (d : ScriptDraft) (refused : Option Refused) → IsDraft d → AreParsedScripts (script d refused).traders
content-script d refused h = content-finished d (has_trader d) h

content-whole_case : (d : ScriptDraft) (test : Bool) (refused : Refused) → IsDraft d
    → AreParsedScripts (if test then script d None else script d (Some refused)).traders
content-whole_case d true refused h = content-script d None h
content-whole_case d false refused h = content-script d (Some refused) h

content-ended : (d : ScriptDraft) → IsDraft d → AreParsedScripts (script_of_draft d).traders
content-ended d h = content-whole_case (close_entry d) (is_some (close_entry d).home) _ (keeps-closed d h)

content-on : (s : LineStep) (f : ScriptDraft → Script) → KeepsStep s → ((d : ScriptDraft) → IsDraft d → AreParsedScripts (f d).traders)
    → AreParsedScripts (go_on s f).traders
content-on (goes d) f h more = more d h
content-on (stops d refused) f h more = content-script d (Some refused) h

content-rest : (n : ℕ) (d : ScriptDraft) (all : List (List ℕ)) → AllByRecursion AreBytes all → IsDraft d
    → AreParsedScripts (rest_of_file n d all).traders
content-rest n d [] bytes h = content-ended d h
content-rest n d (line ∷ rest) bytes h =
    content-on (with_line d (n + 1) line) (λ (more : ScriptDraft). rest_of_file (n + 1) more rest)
    (keeps-line d (n + 1) line bytes.0 h)
    (λ (more : ScriptDraft) k. content-rest (n + 1) more rest bytes.1 k)

strip-when : (returns : Bool) (n : ℕ) (x : List ℕ) → AreBytes x → AreBytes (if returns then take n x else x)
strip-when true n x h = take-bytes n x h
strip-when false n x h = h

last-when : (empty : Bool) (x : List ℕ) → AreBytes x → AllByRecursion AreBytes (if empty then [] else x ∷ [])
last-when true x h = tt
last-when false x h = (h, tt)

lines-bytes : (parts : List (List ℕ)) → AllByRecursion AreBytes parts → AllByRecursion AreBytes (lines_of_parts parts)
lines-bytes [] h = tt
lines-bytes (x ∷ []) h = last-when (length x == 0) x h.0
lines-bytes (x ∷ y ∷ more) h =
    (strip-when (slice_index x (length x - 1) == 13) (length x - 1) x h.0, lines-bytes (y ∷ more) h.1)

bytes-of : (xs : List ℕ) → ((i : ℕ) → slice_index xs i < 256) → AreBytes xs
bytes-of [] h = tt
bytes-of (x ∷ xs) h = (h 0, bytes-of xs (λ (i : ℕ). h (suc i)))

pub content : (file : List ℕ) → AreOctets file → AreParsedScripts (script_of file).traders
unfolding script_of
content file octets =
    content-rest 0 nothing_yet (lines file)
    (lines-bytes (slice_split (λ b. b == 10) file) (split-bytes (λ b. b == 10) file (bytes-of file octets.each)))
    (record { entries = tt; others = tt; above = tt })
