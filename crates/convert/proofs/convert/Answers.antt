-- `convert` meets its contract: each way out is one law of ConvertLaws, and memory and marks are as the load left them.
use Rattle.std.proofs.Common.{length, sym, ap, ◌∙◌}
use Rattle.window.specs.declared.Loaded.{Loaded}
use Rattle.window.specs.declared.Written.{Written}
use Rattle.window.specs.Windows.{window_of}
use Rattle.formats.specs.Choices.{format_of}
use Rattle.loader.proofs.LoaderLaws.{in_bytes}
use Rattle.convert.proofs.ConvertLaws.{written_is, load_refused, write_refused, text_written}
use Rattle.convert.proofs.convert.Goals as goal

pub returns-then-loaded-ne0 : goal.returns-then-loaded-ne0
returns-then-loaded-ne0 c =
    let a = c.args in
    let W = window_of a.base a.memory.now a.marks.now in
    let load = in_bytes a.base a.memory.now a.marks.now _ _ _ _ c.load_as-loaded.ensures in
    let told = load_refused a.format W a.text.now a.out.now _ (ap (λ (x : Loaded). x.refusal) load.0) c.if-loaded-ne0.true in
    record { answer = told.0; memory = load.1.0; marks = load.1.1; output = told.1 }

pub returns-then-written-ne0 : goal.returns-then-written-ne0
returns-then-written-ne0 c =
    let a = c.args in
    let W = window_of a.base a.memory.now a.marks.now in
    let load = in_bytes a.base a.memory.now a.marks.now _ _ _ _ c.load_as-loaded.ensures in
    let accepted = sym (ap (λ (x : Loaded). x.refusal.reason) load.0) ∙ c.if-loaded-ne0.false in
    let is = written_is (format_of a.format) W a.text.now (length a.out.now) c.load_as-loaded.result _ _ load.0 load.1.0 load.1.1 in
    let told = write_refused a.format W a.text.now a.out.now accepted _ is _ _ (ap (λ (x : Written). x.refusal) c.write-written.ensures.answer)
    c.if-written-ne0.true c.write-written.ensures.output in
    record { answer = told.0; memory = load.1.0; marks = load.1.1; output = told.1 }

pub returns : goal.returns
returns c =
    let a = c.args in
    let W = window_of a.base a.memory.now a.marks.now in
    let load = in_bytes a.base a.memory.now a.marks.now _ _ _ _ c.load_as-loaded.ensures in
    let accepted = sym (ap (λ (x : Loaded). x.refusal.reason) load.0) ∙ c.if-loaded-ne0.false in
    let is = written_is (format_of a.format) W a.text.now (length a.out.now) c.load_as-loaded.result _ _ load.0 load.1.0 load.1.1 in
    let told = text_written a.format W a.text.now a.out.now accepted _ is _ _
    (sym (ap (λ (x : Written). x.refusal.reason) c.write-written.ensures.answer) ∙ c.if-written-ne0.false)
    (ap (λ (x : Written). x.length) c.write-written.ensures.answer) c.write-written.ensures.output in
    record { answer = told.0; memory = load.1.0; marks = load.1.1; output = told.1 }
