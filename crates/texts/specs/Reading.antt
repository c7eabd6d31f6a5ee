-- What a reader does at a token.
use Rattle.std.specs.Prelude.{◌≡◌}
use Rattle.texts.specs.declared.reader.Reader.{Reader}
use Rattle.texts.specs.declared.token.Token.{Token}
use Rattle.texts.specs.Tokens.{Lexed, shape}

-- A reader p gives the token t that was read, and then stands behind it, as the reader q; the start of the token stays.
pub record Reads (l : Lexed) (p : Reader) (t : Token) (q : Reader) : Type 0 where
  pub token : shape t ≡ l.what
  pub moved : q.at ≡ l.to
  pub start : q.start ≡ p.start
  pub same : q.text ≡ p.text
