use mathlib.Core.Path.{◌≡◌, sym, ap, ◌∙◌}
use Prim.Native.Nat.{ℕ, ◌+◌}
use native.Mathlib.Omega.{arith}
use borrow.Author.Count.{below_more}
use lib.ListN.{get_or}
use Rattle.keys.specs.Keys.{mixed_in, bucket_of}
use Rattle.keys.proofs.KeyLaws.{mixed-more, mixed-end, same-bucket, seen_more, seen_idle}
use Rattle.keys.proofs.Keys.mixed.Goals as goal

pub loop-b-preserved : goal.loop-b-preserved
loop-b-preserved c = record {
  mixed = mixed-more c.args.self.now.cells.now c.args.self.now.class.now c.args.self.now.from c.args.self.now.bytes.now c.args.r c.loop-b.b-index c.loop-b.h (omega arith)
      (c.mix_in-h.ensures ∙ ap (mixed_in c.loop-b.h (get_or c.args.self.now.bytes.now c.loop-b.b-index 0)) c.key_on-x.ensures) c.loop-b.invariant.mixed;
  bytes = below_more _ _ c.loop-b.invariant.bytes (omega arith);
  seen = seen_more c.loop-b.any c.key_on-x.result c.loop-b.invariant.seen (omega arith) c.key_on-x.ensures;
}

pub returns : goal.returns
returns c = record {
  busy = record {
    yes = c.loop-b.invariant.seen.yes;
    no = λ e. seen_idle c.args.self.now.columns (omega arith) (omega arith) e c.loop-b.invariant.seen;
  };
  bucket = record {
    low = c.bucket_of-bucket.ensures.1;
    is = own;
    alike = λ q s. same-bucket s c.args.self.now.bytes.now (λ k l. c.loop-b.invariant.bytes k (omega arith)) ∙ sym own;
  };
}
  where
    own : c.bucket_of-bucket.result ≡ bucket_of c.args.self.now.cells.now c.args.self.now.class.now c.args.self.now.from c.args.self.now.bytes.now c.args.r
    own = c.bucket_of-bucket.ensures.0 ∙ mixed-end c.args.self.now.cells.now c.args.self.now.class.now c.args.self.now.from c.args.self.now.bytes.now c.args.r c.loop-b.b-index c.loop-b.h (omega arith)
        (ap (λ (x : ℕ). x + get_or c.args.self.now.class.now c.args.r 0) c.mix.ensures.0) c.loop-b.invariant.mixed
