-- What a step prints.
use Rattle.std.specs.Prelude.{◌≡◌, ℕ, List, ◌∷◌, codes}
use Rattle.sha256.specs.Sha256.{sha256}
use Rattle.sha256.specs.Hmac as mac
use Rattle.lines.specs.Hex.{bytes_line}
use Rattle.explain.specs.Judged.{judged, verdict_line}
use Rattle.explain.specs.Shown.{Explained}
use Rattle.bench.specs.Asked.{Ask, digest, hmac, tag, read, explain, help}

-- what a step prints, by the lines of help
abbrev pub Replied : List ℕ → Ask → List ℕ → Type 0
Replied lines (digest m) shown = shown ≡ bytes_line (codes "digest") (sha256 m)
Replied lines (hmac k m) shown = shown ≡ bytes_line (codes "hmac") (mac.hmac k m)
Replied lines (tag t s p) shown = shown ≡ bytes_line (codes "tag") (mac.tag t (s ∷ p))
Replied lines (read m) shown = shown ≡ verdict_line (judged m)
Replied lines (explain m) shown = Explained m shown
Replied lines help shown = shown ≡ lines
