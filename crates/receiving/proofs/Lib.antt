mod ReceiveLaws
