use Rattle.std.proofs.Common.{◌≡◌, ◌<◌, take}
use Rattle.ficus_index.specs.Digest.{digest_of}
use Rattle.ficus_index.proofs.rank.digest.Given as goal

abbrev pub invariant-loop-byte : goal.invariant-loop-byte
invariant-loop-byte l =
    record { small : l.digest < 2147483648; is : l.digest ≡ digest_of (take l.byte-index l.byte-items) }
