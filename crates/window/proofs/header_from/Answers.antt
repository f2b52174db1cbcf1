-- The bytes are copied over zeros.
use mathlib.Core.Path.{ap}
use mathlib.Core.List.{List, ◌++◌}
use lib.ListN.{length, drop}
use Rattle.window.proofs.HeaderLaws.{zeros, header_copied}
use Rattle.window.proofs.header_from.Goals as goal

pub returns : goal.returns
returns c =
    let bs = c.args.bytes.now in
    header_copied bs _ c.requires (ap (λ (x : List _). x ++ drop (length bs) zeros) c.copy_from_slice.ensures.after)
