pub mod Sum  -- a sum in range, or out of it
