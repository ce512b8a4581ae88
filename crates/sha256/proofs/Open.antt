-- The definitions to unfold where a hash or an HMAC is computed: `unfolding hashes`.
use Rattle.std.proofs.Common.{ℕ}
use Rattle.sha256.specs.Sha256.{K, length_field, padded, H0, words, extend, schedule, round, rounds, plus, compress, blocks, bytes, digest_of, sha256}
use Rattle.sha256.specs.Hmac.{shortened, filled, xor, hmac, tag, agreed}

unfoldable pub hashes : ℕ
unfolding K length_field padded H0 words extend schedule round rounds plus compress blocks bytes digest_of sha256 shortened filled xor hmac tag agreed
hashes = 0
