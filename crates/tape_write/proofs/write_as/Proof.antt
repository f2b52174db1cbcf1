-- `write_as` meets its contract: rows 1, 16, 19, 11 and 17 in this order, and then the tape.
use mathlib.Core.Path.{◌≡◌, refl, sym, ap, ◌∙◌}
use Prim.Native.Nat.{ℕ, ◌+◌, ◌^◌, ◌≤◌}
use native.Mathlib.Omega.{arith}
use mathlib.Core.Bool.{false}
use mathlib.Core.List.{List}
use lib.ListN.{length}
use borrow.Author.Tests.{not-true, not-false}
use Rattle.window.specs.Windows.{Window, window_of}
use Rattle.window.specs.Plans.{refusal}
use Rattle.window.specs.Cells.{shown}
use Rattle.text.proofs.WriteLaws.{Call, row_1, is_allowed, declines, accepts}
use Rattle.marks.specs.declared.Form.{Form}
use Rattle.marks.specs.Forms.{row1_in, row16_in, mark_bytes}
use Rattle.marks.proofs.RowLaws.{allowed_in}
use Rattle.forms.proofs.CallLaws.{call_in}
use Rattle.marks.proofs.FormLaws.{flags_length, bad_at_lem, no_bad}
use Rattle.tape.specs.declared.Edition.{Edition}
use Rattle.tape.specs.Canonical.{canonical}
use Rattle.tape.specs.Formats.{row19, tape}
use Rattle.formats.specs.declared.Format.TheVariants.{Tape}
use Rattle.size.specs.declared.Size.{Size}
use Rattle.size.specs.Sizes.{size_of}
use Rattle.tape_text.proofs.AboveLaws.{few_shown}
use Rattle.tape_text.proofs.TapeTextLaws.{need_is}
use Rattle.tape_write.proofs.TapeRowLaws.{row_16, row_19, row_11, row_17, is_written}
use borrow.Author.Rules.{rules}
use Rattle.tape_write.proofs.write_as.Statement.{statement}
use Rattle.tape_write.proofs.write_as.Tie as tie

-- what a write is given, and the output before it
abbrev start : tie.After-is_allowed → tie.Start
start c = c.before.before.before.before.before

abbrev form : tie.After-is_allowed → Form
form c = (start c).args.form

abbrev lent : tie.After-is_allowed → Window
lent c = let a = (start c).args in window_of a.base a.memory.now a.marks.now

abbrev given : tie.After-is_allowed → Call
given c = let a = (start c).args in call_in a.form (lent c) a.header.now a.entry (length a.out.now)

abbrev edition : tie.After-is_allowed → Edition
edition c = (start c).args.edition

abbrev out : tie.After-is_allowed → List ℕ
out c = (start c).args.out.now

allowed : (c : tie.Else-not-is_allowed) → row1_in (form c.before) (lent c.before) ≡ false
allowed c = is_allowed (given c.before) c.is_allowed.ensures (c.if-not-is_allowed.false)

-- behind row 1, from behind row 16
abbrev behind-16 : tie.In_default → tie.Else-not-is_allowed
behind-16 c = c.before.before

abbrev asked : tie.In_default → Call
asked c = given (behind-16 c).before

abbrev told : tie.In_default → Edition
told c = edition (behind-16 c).before

-- where the call is known
abbrev at : tie.In_default → tie.After-is_allowed
at c = (behind-16 c).before

-- the window is as long as row 1 asks for, and its flags are as many as its cells
fits : (c : tie.Else-not-is_allowed) → (length (lent c.before).marks ≡ mark_bytes (form c.before) (length (lent c.before).memory))
    × ((lent c.before).base + length (lent c.before).memory ≤ 2 ^ 32)
fits c = allowed_in (form c.before) (lent c.before) (allowed c)

long : (c : tie.Else-not-is_allowed) → length (given c.before).window.marks ≡ length (lent c.before).memory
long c = flags_length (form c.before) (length (lent c.before).memory) (lent c.before).marks (fits c).0

none : (c : tie.In_default) → row16_in (form (at c)) (length (lent (at c)).memory) (lent (at c)).marks ≡ false
none c = no_bad (form (at c)) (length (lent (at c)).memory) (lent (at c)).marks (sym c.in_default.is ∙ c.first_bad-bad.ensures)

-- behind row 19
abbrev behind-19 : tie.After-first_above-above → tie.In_default
behind-19 c = c.before.before.before

alone : (c : tie.After-first_above-above) → let k = asked (behind-19 c) in row19 k.header k.entry ≡ false
alone c = sym c.has_extras.ensures ∙ c.if-has_extras.false

returns : tie.Need-returns-then-not-is_allowed
returns c =
    let s = c.before.before in
    declines (tape (edition s)) (given s) (refusal 1 0 0) c.refused_write.result (out s)
    (row_1 (tape (edition s)) (given s) s.is_allowed.ensures (c.if-not-is_allowed.true)) c.refused_write.ensures

first-bad-requires : tie.Need-first_bad-bad-requires
first-bad-requires c κs = let f = fits c in (omega (arith, f.1), f.0)

returns-2 : tie.Need-returns-in-Some
returns-2 c =
    let at-bad = c.before in
    let at_first = at-bad.before in
    let e = at_first.before in
    let s = e.before in
    let place = at-bad.in-Some.place in
    let q = bad_at_lem (form s) (length (lent s).memory) (lent s).marks place (sym at-bad.in-Some.is ∙ at_first.first_bad-bad.ensures) in
    declines (tape (edition s)) (given s) (refusal 16 0 place) c.refused_write-in-Some.result (out s)
    (row_16 (edition s) (given s) (allowed e) place (q.0, ap (refusal 16 0) (sym q.1))) c.refused_write-in-Some.ensures

returns-3 : tie.Need-returns-then-has_extras
returns-3 c =
    let at_more = c.before.before in
    let t = at_more.before in
    declines (tape (told t)) (asked t) (refusal 19 0 0) c.refused_write-then-has_extras.result (out (behind-16 t).before)
    (row_19 (told t) (asked t) (allowed (behind-16 t)) (none t) (sym at_more.has_extras.ensures ∙ c.if-has_extras.true)) c.refused_write-then-has_extras.ensures

first-above-requires : tie.Need-first_above-above-requires
first-above-requires c κs = (fits (behind-16 c.before.before)).0

returns-4 : tie.Need-returns-then-above-cells
returns-4 c =
    let at_above = c.before.before in
    let t = behind-19 at_above in
    let above = at_above.first_above-above.result in
    declines (tape (told t)) (asked t) (refusal 11 0 above) c.refused_write-then-above-cells.result (out (behind-16 t).before)
    (row_11 (told t) (asked t) (allowed (behind-16 t)) (none t) (alone at_above) above at_above.first_above-above.ensures
    (omega (arith, c.if-above-cells.true, long (behind-16 t))))
    c.refused_write-then-above-cells.ensures

-- behind row 11 no marked cell is above FFFF
abbrev behind-11 : tie.After-size_of-size → tie.After-first_above-above
behind-11 c = c.before.before

low : (c : tie.Else-above-cells) → length (asked (behind-19 c.before)).window.marks ≤ c.first_above-above.result
low c = let t = behind-19 c.before in omega (arith, c.if-above-cells.false, long (behind-16 t))

size-of-requires : tie.Need-size_of-size-requires
size-of-requires c κs = let f = fits (behind-16 (behind-19 c.before)) in (f.1, f.0)

-- the tape's size and length are as measured
sized : (c : tie.After-size_of-size) → c.size_of-size.result ≡ size_of (Tape (told (behind-19 (behind-11 c)))) (shown (asked (behind-19 (behind-11 c))).window) 0
sized c = c.size_of-size.ensures.0 (lent (at (behind-19 (behind-11 c)))).memory refl

tape-length-requires : tie.Need-tape_length-need-requires
tape-length-requires c κs =
    let t = behind-19 (behind-11 c) in
    let n = c.size_of-size.ensures.1 in
    let f = fits (behind-16 t) in
    (omega (arith, n, f), omega (arith, n, f))

abbrev text : tie.After-tape_length-need → List ℕ
text c = canonical (told (behind-19 (behind-11 c.before))) (shown (asked (behind-19 (behind-11 c.before))).window)

needed : (c : tie.After-tape_length-need) → c.tape_length-need.result ≡ length (text c)
needed c = need_is _ _ c.size_of-size.result c.tape_length-need.result (sized c.before) c.tape_length-need.ensures

returns-5 : tie.Need-returns-then-out-need
returns-5 c =
    let at_length = c.before.before in
    let at_above = behind-11 at_length.before in
    let t = behind-19 at_above in
    let need = needed at_length in
    declines (tape (told t)) (asked t) (refusal 17 0 (length (text at_length))) c.refused_write-then-out-need.result (out (behind-16 t).before)
    (row_17 (told t) (asked t) (allowed (behind-16 t)) (none t) (alone at_above) at_above.first_above-above.result at_above.first_above-above.ensures
    (low at_length.before.before) (omega (arith, need, c.if-out-need.true)))
    (rw need at c.refused_write-then-out-need.ensures)

put-tape-requires : tie.Need-put_tape-requires
put-tape-requires c κs =
    let at_length = c.before.before in
    let at_size = at_length.before in
    let at_above = behind-11 at_size in
    let t = behind-19 at_above in
    let f = fits (behind-16 t) in
    let few = few_shown (asked t).window.base (asked t).window.memory (asked t).window.marks (sym (long (behind-16 t)))
    (omega (arith, at_above.first_above-above.ensures, low at_size.before)) in (
      (f.0, f.1),
      (
        (
          ap (λ (z : Size). z.records) (sized at_size),
          omega (arith, few, at_size.size_of-size.ensures.1, ap (λ (z : Size). z.cells) (sized at_size)),
        ),
        omega (arith, needed at_length, c.if-out-need.false),
      ),
    )

returns-6 : tie.Need-returns
returns-6 c =
    let at_put = c.before.before.before in
    let at-if4 = at_put.before.before in
    let at_length = at-if4.before in
    let at_above = behind-11 at_length.before in
    let t = behind-19 at_above in
    let need = needed at_length in
    accepts (tape (told t)) (asked t) (text at_length) c.accepted_write.result (out (behind-16 t).before) at_put.put_tape.new.out
    at_length.tape_length-need.result
    (is_written (told t) (asked t) (allowed (behind-16 t)) (none t) (alone at_above) at_above.first_above-above.result at_above.first_above-above.ensures
    (low at_length.before.before) (omega (arith, need, at-if4.if-out-need.false)))
    need c.accepted_write.ensures at_put.put_tape.ensures

pub write_as_spec : {M : Type 1} → statement M
write_as_spec =
    tie.close
    (tie.spec
    (λ c κs. search rules)
    (λ c κs. search rules)
    returns
    first-bad-requires
    (λ c. search rules)
    (λ c κs. search rules)
    returns-2
    (λ c. search rules)
    (λ c κs. search rules)
    (λ c κs. search rules)
    returns-3
    first-above-requires
    (λ c κs. search rules)
    returns-4
    size-of-requires
    tape-length-requires
    (λ c κs. search rules)
    returns-5
    put-tape-requires
    (λ c κs. search rules)
    (λ c. search rules)
    returns-6)
