use Rattle.key_index.specs.Bytes.{head_of}
use Rattle.key_index.proofs.PageBytes.{seven}
use Rattle.key_index.proofs.index_page.put_head.Goals as goal

pub returns : goal.returns
unfolding head_of
returns c =
    rw (
      c.in_ok-extend_from_slice-7.ensures.items,
      c.in_ok-extend_from_slice-6.ensures.items,
      c.in_ok-extend_from_slice-5.ensures.items,
      c.in_ok-extend_from_slice-4.ensures.items,
      c.in_ok-extend_from_slice-3.ensures.items,
      c.in_ok-extend_from_slice-2.ensures.items,
      c.in_ok-extend_from_slice.ensures.items,
      c.to_be_bytes.ensures,
      c.to_be_bytes-2.ensures,
      c.to_be_bytes-3.ensures,
      c.to_be_bytes-4.ensures,
      c.to_be_bytes-5.ensures,
      c.to_be_bytes-6.ensures,
    )
    (seven c.args.out.now.items _ _ _ _ _ _ _)
