-- `write_as` meets its contract: rows 1, 15, 16, 18 and 17 in this order, and then the text.
use mathlib.Core.Path.{◌≡◌, refl, sym, ap, ◌∙◌}
use Prim.Native.Nat.{ℕ, ◌+◌, ◌^◌, ◌≤◌}
use native.Mathlib.Omega.{arith}
use mathlib.Core.Bool.{false}
use mathlib.Core.List.{List}
use lib.ListN.{length}
use borrow.Author.Tests.{not-true, not-false}
use Rattle.std.specs.Prelude.{Some}
use Rattle.window.specs.Windows.{Window, window_of}
use Rattle.window.specs.Plans.{refusal}
use Rattle.window.specs.Cells.{shown}
use Rattle.text.specs.Write.{text_of}
use Rattle.text.proofs.WriteLaws.{Call, row_1, is_allowed, declines, accepts}
use Rattle.srec.specs.Canonical.{width_for}
use Rattle.srec.specs.Formats.{srec}
use Rattle.srec.proofs.FitLaws.{width_is}
use Rattle.formats.specs.declared.Format.TheVariants.{Records}
use Rattle.marks.specs.declared.Form.{Form}
use Rattle.marks.specs.Forms.{row1_in, row16_in, mark_bytes}
use Rattle.marks.proofs.RowLaws.{allowed_in}
use Rattle.forms.proofs.CallLaws.{call_in}
use Rattle.marks.proofs.FormLaws.{bad_at_lem, no_bad}
use Rattle.size.specs.declared.Size.{Size}
use Rattle.size.specs.Sizes.{size_of}
use Rattle.srec_write.proofs.RecordRowLaws.{need_is, row_15, row_16, row_18, row_17, is_written}
use borrow.Author.Rules.{rules}
use Rattle.srec_write.proofs.write_as.Statement.{statement}
use Rattle.srec_write.proofs.write_as.Tie as tie

-- what a write is given, and the output before it
abbrev start : tie.After-is_allowed → tie.Start
start c = c.before.before.before.before.before

abbrev form : tie.After-is_allowed → Form
form c = (start c).args.form

abbrev lent : tie.After-is_allowed → Window
lent c = let a = (start c).args in window_of a.base a.memory.now a.marks.now

abbrev given : tie.After-is_allowed → Call
given c = let a = (start c).args in call_in a.form (lent c) a.header.now a.entry (length a.out.now)

abbrev out : tie.After-is_allowed → List ℕ
out c = (start c).args.out.now

-- behind row 1, row 16, and where the entry is known
abbrev behind-16 : tie.In_default → tie.Else-header-gt-MOST_HEADER
behind-16 c = c.before.before

abbrev with-entry : tie.After-text_length-need → tie.In-Some-entry
with-entry c = c.before.before.before

abbrev asked : tie.In_default → Call
asked c = given (behind-16 c).before.before

-- where the call is known
abbrev at : tie.In_default → tie.After-is_allowed
at c = (behind-16 c).before.before

allowed : (c : tie.Else-not-is_allowed) → row1_in (form c.before) (lent c.before) ≡ false
allowed c = is_allowed (given c.before) c.is_allowed.ensures (c.if-not-is_allowed.false)

-- the window is as long as row 1 asks for
fits : (c : tie.Else-not-is_allowed) → (length (lent c.before).marks ≡ mark_bytes (form c.before) (length (lent c.before).memory))
    × ((lent c.before).base + length (lent c.before).memory ≤ 2 ^ 32)
fits c = allowed_in (form c.before) (lent c.before) (allowed c)

none : (c : tie.In_default) → row16_in (form (at c)) (length (lent (at c)).memory) (lent (at c)).marks ≡ false
none c = no_bad (form (at c)) (length (lent (at c)).memory) (lent (at c)).marks (sym c.in_default.is ∙ c.first_bad-bad.ensures)

returns : tie.Need-returns-then-not-is_allowed
returns c =
    let s = c.before.before in
    declines srec (given s) (refusal 1 0 0) c.refused_write.result (out s)
    (row_1 srec (given s) s.is_allowed.ensures (c.if-not-is_allowed.true)) c.refused_write.ensures

returns-2 : tie.Need-returns-then-header-gt-MOST_HEADER
returns-2 c =
    let e = c.before.before in
    let s = e.before in
    declines srec (given s) (refusal 15 0 0) c.refused_write-then-header-gt-MOST_HEADER.result (out s) (row_15 (given s) (allowed e) c.if-header-gt-MOST_HEADER.true) c.refused_write-then-header-gt-MOST_HEADER.ensures

first-bad-requires : tie.Need-first_bad-bad-requires
first-bad-requires c κs = let f = fits c.before in (omega (arith, f.1), f.0)

returns-3 : tie.Need-returns-in-Some
returns-3 c =
    let at-bad = c.before in
    let at_first = at-bad.before in
    let e = at_first.before in
    let s = e.before.before in
    let place = at-bad.in-Some.place in
    let q = bad_at_lem (form s) (length (lent s).memory) (lent s).marks place (sym at-bad.in-Some.is ∙ at_first.first_bad-bad.ensures) in
    declines srec (given s) (refusal 16 0 place) c.refused_write-in-Some.result (out s)
    (row_16 (given s) (allowed e.before) e.if-header-gt-MOST_HEADER.false place (q.0, ap (refusal 16 0) (sym q.1))) c.refused_write-in-Some.ensures

returns-4 : tie.Need-returns-in_default-entry
returns-4 c =
    let at_told = c.before.before in
    let e = behind-16 at_told in
    declines srec (asked at_told) (refusal 18 0 0) c.refused_write-in_default-entry.result (out e.before.before)
    (row_18 (asked at_told) (allowed e.before) e.if-header-gt-MOST_HEADER.false (none at_told) c.in_default-entry.is) c.refused_write-in_default-entry.ensures

-- the call and its entry, where an entry is there
abbrev told : tie.In-Some-entry → tie.In_default
told c = c.before

abbrev entry : tie.In-Some-entry → ℕ
entry c = c.in-Some-entry.start

size-of-requires : tie.Need-size_of-size-requires
size-of-requires c κs = let f = fits (behind-16 (told c)).before in (f.1, f.0)

-- the text's size and length are as measured
sized : (c : tie.After-size_of-size) → c.size_of-size.result ≡ size_of Records (shown (asked (told c.before)).window) (entry c.before)
sized c = c.size_of-size.ensures.0 (lent (at (told c.before))).memory refl

text-length-requires : tie.Need-text_length-need-requires
text-length-requires c κs =
    let n = c.size_of-size.ensures.1 in
    let e = behind-16 (told c.before.before) in
    let f = fits e.before in
    (omega (arith, n, f), omega (arith, n, f), e.if-header-gt-MOST_HEADER.false, rw c.width_for-width.ensures (width_is c.size_of-size.result.largest).small)

-- the canonical text
abbrev text : tie.In-Some-entry → List ℕ
text c = let k = asked (told c) in text_of srec k.window k.header (Some (entry c))

needed : (c : tie.After-text_length-need) → c.text_length-need.result ≡ length (text (with-entry c))
needed c =
    let at_size = c.before.before in
    let k = asked (told (with-entry c)) in
    need_is k.window k.header (entry (with-entry c)) at_size.size_of-size.result c.width_for-width.result
    c.text_length-need.result (sized at_size) c.width_for-width.ensures c.text_length-need.ensures

returns-5 : tie.Need-returns-then-out-need
returns-5 c =
    let at_length = c.before.before in
    let at_entry_lem = with-entry at_length in
    let e = behind-16 (told at_entry_lem) in
    let need = needed at_length in
    declines srec (asked (told at_entry_lem)) (refusal 17 0 (length (text at_entry_lem))) c.refused_write-then-out-need.result (out e.before.before)
    (row_17 (asked (told at_entry_lem)) (allowed e.before) e.if-header-gt-MOST_HEADER.false (none (told at_entry_lem)) (entry at_entry_lem) at_entry_lem.in-Some-entry.is
    (omega (arith, need, c.if-out-need.true)))
    (rw need at c.refused_write-then-out-need.ensures)

put-text-requires : tie.Need-put_text-requires
put-text-requires c κs =
    let at_length = c.before.before in
    let at_entry_lem = with-entry at_length in
    let e = behind-16 (told at_entry_lem) in
    let f = fits e.before in
    let size = sized at_length.before.before in (
      (f.0, f.1, e.if-header-gt-MOST_HEADER.false),
      (
        ap (λ (z : Size). z.records) size,
        (
          at_length.width_for-width.ensures ∙ ap (λ (z : Size). width_for z.largest) size,
          omega
              (arith, needed at_length, c.if-out-need.false),
        ),
      ),
    )

returns-6 : tie.Need-returns
returns-6 c =
    let at_put = c.before.before.before in
    let at-if3 = at_put.before.before in
    let at_length = at-if3.before in
    let at_entry_lem = with-entry at_length in
    let e = behind-16 (told at_entry_lem) in
    let need = needed at_length in
    accepts srec (asked (told at_entry_lem)) (text at_entry_lem) c.accepted_write.result (out e.before.before) at_put.put_text.new.out
    at_length.text_length-need.result
    (is_written (asked (told at_entry_lem)) (allowed e.before) e.if-header-gt-MOST_HEADER.false (none (told at_entry_lem)) (entry at_entry_lem)
    at_entry_lem.in-Some-entry.is (omega (arith, need, at-if3.if-out-need.false)))
    need c.accepted_write.ensures at_put.put_text.ensures

pub write_as_spec : {M : Type 1} → statement M
write_as_spec =
    tie.close
    (tie.spec
    (λ c κs. search rules)
    (λ c κs. search rules)
    returns
    (λ c κs. search rules)
    returns-2
    first-bad-requires
    (λ c. search rules)
    (λ c κs. search rules)
    returns-3
    (λ c. search rules)
    (λ c. search rules)
    (λ c. search rules)
    (λ c κs. search rules)
    returns-4
    size-of-requires
    (λ c κs. search rules)
    text-length-requires
    (λ c κs. search rules)
    returns-5
    put-text-requires
    (λ c κs. search rules)
    (λ c. search rules)
    returns-6)
