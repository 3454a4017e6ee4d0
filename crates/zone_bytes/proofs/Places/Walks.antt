-- Free bytes are no more than bytes.
use Rattle.zone_bytes.proofs.Cited.{◌≤◌, List, Block, size, sizes, free_of, free_sum, free_of-le, total-le}

pub free_span-le : (blocks : List Block) → free_sum blocks ≤ sizes blocks
free_span-le blocks = total-le free_of size free_of-le blocks
