-- What an audit says of the log of a ring.
use Rattle.std.proofs.Common.{◌≡◌, ℕ, ◌<◌, ◌≤◌, List, length, Option, Some, IfSome, IsSomeAnd, Result, Ok, Err, sym, ap}
use Rattle.std.proofs.Common.{subst, ◌∙◌, arith, ◌⊎◌, inl, inr}
use Rattle.td_audit.specs.Auditing.{Audits as IsVerdict}
use Rattle.td_audit.specs.Making.{IsLog}
use Rattle.td_audit.specs.declared.verdict.Cause.{Cause}
use Rattle.td_audit.specs.declared.verdict.Verdict.{Verdict}
use Rattle.td_audit.specs.declared.verdict.Verdict.TheVariants.{Yes, No, Line}
use Rattle.td_audit_laws.specs.Laws.{VerdictsAreOne}
use Rattle.td_audit_run.specs.Audits.{AuditsFile, AuditsNamed, AuditsText, SaysVerdict, audits, has, long, missing}
use Rattle.td_audit_run.specs.Audits.{opens, refused, no_memory_outcome, yes_line}
use Rattle.td_audit_run.specs.Printing.{PrintsFront, PrintsVerdict, PrintsWhole}
use Rattle.td_audit_run.specs.declared.audited.Audited.{Audited}
use Rattle.td_audit_run.specs.declared.audited.Audited.TheVariants.{Usage, Missing, TooLong, Refused, Strange, Memory}
use Rattle.td_audit_run.specs.declared.audited.Audited.TheVariants.{Printed, Denied, PrintFault}
use Rattle.td_audit_run_laws.proofs.Filed.{files-pass}
use Rattle.td_audit_run_laws.proofs.Generating.{generated-octets}
use Rattle.td_audit_run_laws.proofs.Ringing.{rings-fit}
use Rattle.td_audit_run_laws.specs.Rings.{HasFileAndLog, RingLogsPass, SaysYes}
use Rattle.td_command.specs.Printing.{SinkSeen}
use Rattle.td_command.specs.Shelves.{Shelves}
use Rattle.td_file.specs.Files.{Opening, opening_of}
use Rattle.td_lines.specs.Steps.{refusal}
use Rattle.td_lines.specs.declared.entry.Refused.{Refused as Entry}
use Rattle.td_log.specs.Words.{lines_of}
use Rattle.td_make.specs.Generated.{generated_file}
use Rattle.td_make_file_laws.specs.Opened.{GeneratedOpen}
use Rattle.td_make_laws.specs.Said.{GeneratedAreRead}
use Rattle.td_out.specs.Texts.{NamedText, longest_text, text_named}

-- ---- a text by its name

module _ (content : Option (List NamedText)) (list : List NamedText) (is : content ≡ Some list) (name text : List ℕ)
    (named : text_named name list ≡ Some text) where
  -- what was read is that text
  read-one : (other : List ℕ) → IfSome content (λ texts. text_named name texts ≡ Some other) → other ≡ text
  read-one other h =
      let here : text_named name list ≡ Some other =
      subst (λ (t : Option (List NamedText)). IfSome t (λ texts. text_named name texts ≡ Some other)) is h in
      let same : ◌≡◌ {A = Option (List ℕ)} (Some other) (Some text) = sym here ∙ named in
      cc

  -- it was too long
  read-long : IfSome content (λ texts. IsSomeAnd (text_named name texts) (λ x. longest_text < length x))
      → longest_text < length text
  read-long h =
      subst (λ (x : Option (List ℕ)). IsSomeAnd x (λ y. longest_text < length y)) named
      (subst (λ (t : Option (List NamedText)). IfSome t (λ texts.
      IsSomeAnd (text_named name texts) (λ x. longest_text < length x))) is h)

-- ---- the verdict

module _ (one : VerdictsAreOne) (o : Opening) (log : List ℕ)
    (right : IsVerdict o.traders o.home log (Yes (length (lines_of log)))) where
  abbrev lines : ℕ
  lines = length (lines_of log)

  yes-count : (count : ℕ) → IsVerdict o.traders o.home log (Yes count) → count ≡ lines
  yes-count count h =
      let same : ◌≡◌ {A = Verdict} (Yes count) (Yes lines) = one o.traders o.home log (Yes count) (Yes lines) h right in
      cc

  never-no : (n : ℕ) (cause : Cause) → IsVerdict o.traders o.home log (No n cause) → ⊥
  never-no n cause h =
      let same : ◌≡◌ {A = Verdict} (No n cause) (Yes lines) =
      one o.traders o.home log (No n cause) (Yes lines) h right in
      absurd (cc)

  never-strange : (n : ℕ) → IsVerdict o.traders o.home log (Line n) → ⊥
  never-strange n h =
      let same : ◌≡◌ {A = Verdict} (Line n) (Yes lines) = one o.traders o.home log (Line n) (Yes lines) h right in
      absurd (cc)

  -- what is said is that each line passes
  said-yes : (text : List ℕ) → SaysVerdict log o Printed text → text ≡ yes_line lines
  said-yes text h = h.2 ∙ ap yes_line (yes-count h.0 h.1)

  either-yes : (text : List ℕ) → SaysVerdict log o Printed text ⊎ SaysVerdict log o Denied text
      → text ≡ yes_line lines
  either-yes text (inl h) = said-yes text h
  either-yes text (inr h) = absurd (never-no h.0 h.1 h.2)

  printed-yes : (ended : Audited) (before after : SinkSeen) → PrintsVerdict (SaysVerdict log o) ended before after
      → SaysYes log ended before after
  printed-yes Printed before after h =
      subst (λ (text : List ℕ). PrintsWhole text before after) (said-yes h.0 h.1) h.2
  printed-yes Denied before after h = absurd (never-no h.1.0 h.1.1 h.1.2)
  printed-yes PrintFault before after h =
      subst (λ (text : List ℕ). PrintsFront text before after) (either-yes h.0 h.1) h.2
  printed-yes (Strange n) before after h = absurd (never-strange n h.0.0)
  printed-yes Memory before after h = h
  printed-yes Usage before after h = absurd h
  printed-yes Missing before after h = absurd h
  printed-yes TooLong before after h = absurd h
  printed-yes (Refused n cause) before after h = absurd h

ended-so : (log : List ℕ) (before after : SinkSeen) (wanted ended : Audited) → ended ≡ wanted
    → SaysYes log wanted before after → SaysYes log ended before after
ended-so log before after wanted ended e h = subst (λ (x : Audited). SaysYes log x before after) (sym e) h

-- ---- the texts

module _ (one : VerdictsAreOne) (count : ℕ) (least : 1 ≤ count) (most : count ≤ 64) (o : Opening)
    (opened : opening_of (generated_file count) ≡ Ok o) (short : length (generated_file count) ≤ longest_text) (log : List ℕ)
    (is : IsLog o.traders o.home log) (fits : length log ≤ longest_text) (texts : Shelves) (file name : List ℕ)
    (named : HasFileAndLog texts file name count log) (before after : SinkSeen) where
  of-log : (mid last : ℕ) (ended : Audited) → AuditsNamed o texts.content name mid last ended before after
      → SaysYes log ended before after
  of-log mid last ended (missing h e same) = ended-so log before after Missing ended e same
  of-log mid last ended (long h e same) =
      let over = read-long texts.content named.list named.content name log named.log_is h in
      absurd (let no : ⊥ = omega (arith, over, fits) in no)
  of-log mid last ended (no_memory_outcome e same) = ended-so log before after Memory ended e same
  of-log mid last ended (audits other h prints) =
      let same : other ≡ log = read-one texts.content named.list named.content name log named.log_is other h.1 in
      let few : length log ≤ longest_text = subst (λ (x : List ℕ). length x ≤ longest_text) same h.0 in
      let right =
      files-pass (generated_file count) log o (generated-octets count least most) opened is (omega (arith, few)) in
      printed-yes one o log right ended before after
      (subst (λ (x : List ℕ). PrintsVerdict (SaysVerdict x o) ended before after) same prints)

  of-text : (text : List ℕ) (mid last : ℕ) (ended : Audited) → text ≡ generated_file count
      → AuditsText text texts.content name mid last ended before after → SaysYes log ended before after
  of-text text mid last ended whole (refused number why h e moved same) =
      let bad : ◌≡◌ {A = Result Opening Entry} (Err (refusal number why)) (Ok o) =
      sym h ∙ (ap opening_of whole ∙ opened) in
      absurd (cc)
  of-text text mid last ended whole (no_memory_outcome e same) = ended-so log before after Memory ended e same
  of-text text mid last ended whole (opens p h named_so) =
      let both : ◌≡◌ {A = Result Opening Entry} (Ok p) (Ok o) = sym h ∙ (ap opening_of whole ∙ opened) in
      let same : p ≡ o = cc in
      of-log mid last ended
      (subst (λ (x : Opening). AuditsNamed x texts.content name mid last ended before after) same named_so)

  of-file : (ended : Audited) → AuditsFile texts file name ended before after → SaysYes log ended before after
  of-file ended (missing h e same) = ended-so log before after Missing ended e same
  of-file ended (long h e same) =
      let over = read-long texts.content named.list named.content file (generated_file count) named.file_is h in
      absurd (let no : ⊥ = omega (arith, over, short) in no)
  of-file ended (no_memory_outcome e same) = ended-so log before after Memory ended e same
  of-file ended (has mid text h audited) =
      of-text text mid texts.after ended
      (read-one texts.content named.list named.content file (generated_file count) named.file_is text h.1) audited

pub rings-pass : VerdictsAreOne → GeneratedAreRead → GeneratedOpen → RingLogsPass
rings-pass one read open_all count o log file name texts before after written0 written1 faults0 faults1 status least most
    opened is named run = record {
      ended = run.ended;
      says = of-file one count least most o opened (open_all count least most).short log is
          (rings-fit read open_all count o log least most opened is) texts file name named before
          after run.ended run.obeys;
      answered = run.answered;
    }
