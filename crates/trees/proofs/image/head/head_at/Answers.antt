-- What the proof of `image::head::head_at` is asked to show.
use Rattle.std.proofs.Common.{◌/◌, ◌<◌, [], length, get_or, ap, ◌∙◌, arith}
use Rattle.trees.proofs.Heads.{chunk_at, head_found}
use Rattle.trees.proofs.image.head.head_at.Goals as goal

pub returns : goal.returns
returns c =
    let bs = c.args.bytes.now in
    let p = c.args.place in
    let found = c.in_ok-get.ensures.lookup.3 in
    let lt : p < length bs / 6 = omega (arith, found.0, c.as_chunks.ensures.front_len) in
    head_found bs _ p c.read_head.result lt (found.1 [] ∙ ap (λ rs. get_or rs p []) c.as_chunks.ensures.front ∙ chunk_at bs (length bs / 6) p lt) c.read_head.ensures
