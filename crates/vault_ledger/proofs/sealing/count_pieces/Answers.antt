use Rattle.std.proofs.Common.{ℕ, ◌≤◌, List, length, subst, arith}
use Rattle.copy_fragments.specs.Copies.{IsPieceCount}
use Rattle.copy_fragments.proofs.Kept.{counted_pieces}
use Rattle.vault_ledger.proofs.sealing.count_pieces.Goals as goal

pub returns : goal.returns
returns c =
    let cut = c.args.cut.now in
    let some : 1 ≤ c.args.cut.now.size = omega (arith, c.size.ensures.is, c.size.ensures.some) in
    counted_pieces cut.size c.piece_count.result cut.bytes some (subst (λ (k : ℕ). IsPieceCount c.piece_count.result k (length c.args.cut.now.bytes)) c.size.ensures.is
    (subst (λ (l : List ℕ). IsPieceCount c.piece_count.result c.size.result (length l)) c.bytes.ensures c.piece_count.ensures))
